-- Lines written: how long they can be, and one line after another. Assumes nothing.
use mathlib.Core.Path.{◌≡◌, refl, sym, ap, ap₂, ◌∙◌}
use mathlib.Core.List.{List, [], ◌∷◌, ◌++◌}
use Prim.Native.Nat.{ℕ, suc, ◌+◌, ◌-◌, ◌*◌, ◌≤◌, ◌<◌}
use native.Mathlib.Nat.{sub-zero}
use native.Mathlib.Numerals.{add-one}
use native.Mathlib.Omega.{arith}
use lib.ListN.{length, length-append}
use lib.Seq.{sets, length-sets}
use Rattle.rules.specs.Window.{from, flat}
use Rattle.fields.specs.Words.{bytes}
use Rattle.fields.specs.Decimal.{decimal}
use Rattle.fields.specs.Written.{Wrote, columns, row}
use Rattle.fields.proofs.Written.{sets_append, most}

-- ---- the longest lines

more : (n : ℕ) (ns : List ℕ) → length (columns (n ∷ ns)) ≡ suc (length (decimal n) + length (columns ns))
more n ns = ap suc (length-append (decimal n) (columns ns))

byte : (n : ℕ) → n < 256 → length (decimal n) ≤ 3
byte n h = most 2 n (let z : n < 1000 = omega arith in z)

pub bad_most : (n l : ℕ) → n < 256 → l < 18446744073709551616 → length (row (bytes "bad") (n ∷ l ∷ [])) ≤ 29
bad_most n l hn hl =
    let a = byte n hn in
    let b = most 19 l (let z : l < 100000000000000000000 = omega arith in z) in
    omega (arith, more n (l ∷ []), more l [])

pub light_most : (r g b : ℕ) → r < 256 → g < 256 → b < 256 → length (row (bytes "light") (r ∷ g ∷ b ∷ [])) ≤ 18
light_most r g b hr hg hb =
    let x = byte r hr in
    let y = byte g hg in
    let z = byte b hb in
    omega (arith, more r (g ∷ b ∷ []), more g (b ∷ []), more b [])

pub out_most : (t r g b : ℕ) → t < 65536 → r < 256 → g < 256 → b < 256 → length (row (bytes "out") (t ∷ r ∷ g ∷ b ∷ [])) ≤ 22
out_most t r g b ht hr hg hb =
    let w = most 4 t (let z : t < 100000 = omega arith in z) in
    let x = byte r hr in
    let y = byte g hg in
    let z = byte b hb in
    omega (arith, more t (r ∷ g ∷ b ∷ []), more r (g ∷ b ∷ []), more g (b ∷ []), more b [])

-- ---- n lines, of which those before p are written

pub record Listed (f : ℕ → List ℕ) (n at : ℕ) (out₀ out : List ℕ) (next p : ℕ) : Type 0 where
  pub some : p ≤ n
  pub kept : length out ≡ length out₀
  pub room : next + 22 * (n - p) ≤ length out₀
  pub ends : next + length (flat (from p (n - p) f)) ≡ at + length (flat (from 0 n f))
  pub is : sets out₀ at (flat (from 0 n f)) ≡ sets out next (flat (from p (n - p) f))

module _ (f : ℕ → List ℕ) (n at : ℕ) (out₀ : List ℕ) where
  pub listed_none : at + 22 * n ≤ length out₀ → Listed f n at out₀ out₀ at 0
  listed_none h =
      let e : n ≡ n - 0 = sym (sub-zero n) in
      record {
        some = omega arith;
        kept = refl;
        room = omega arith;
        ends = ap (λ (k : ℕ). at + length (flat (from 0 k f))) (sub-zero n);
        is = ap (λ (k : ℕ). sets out₀ at (flat (from 0 k f))) e;
      }

  module _ (out : List ℕ) (next p : ℕ) (l : Listed f n at out₀ out next p) where
    on : p < n → flat (from p (n - p) f) ≡ f p ++ flat (from (p + 1) (n - (p + 1)) f)
    on h =
        let e : n - p ≡ suc (n - (p + 1)) = omega arith in
        ap (λ (k : ℕ). flat (from p k f)) e ∙ ap (λ (q : ℕ). f p ++ flat (from q (n - (p + 1)) f)) (sym (add-one p))

    pub listed_more : (out' : List ℕ) (next' : ℕ) → p < n → length out' ≡ length out → Wrote (f p) out next out' next' → next' ≤ next + 22
        → Listed f n at out₀ out' next' (p + 1)
    listed_more out' next' h k w m =
        let rest : List ℕ = flat (from (p + 1) (n - (p + 1)) f) in
        let s : length (flat (from p (n - p) f)) ≡ length (f p) + length rest = ap length (on h) ∙ length-append (f p) rest in
        record {
          some = omega arith;
          kept = k ∙ l.kept;
          room = omega (arith, l.room);
          ends = omega (arith, l.ends, w.ends);
          is =
              l.is ∙ ap (sets out next) (on h) ∙ sets_append out next (f p) rest
              ∙ ap₂ (λ (x : List ℕ) (y : ℕ). sets x y rest) (sym w.is) (sym w.ends);
        }

    pub listed_done : n ≤ p → Wrote (flat (from 0 n f)) out₀ at out next
    listed_done h =
        let z : n - p ≡ 0 = omega arith in
        let e : length (flat (from p (n - p) f)) ≡ 0 = ap (λ (k : ℕ). length (flat (from p k f))) z in
        record {
          ends = omega (arith, l.ends);
          within = omega (arith, l.room);
          is = sym (l.is ∙ ap (λ (k : ℕ). sets out next (flat (from p k f))) z);
        }

-- ---- what is written ends in the memory that it is written to

pub inside : {written out out' : List ℕ} {at end : ℕ} → Wrote written out at out' end → end ≤ length out'
inside {written} {out} {out'} {at} w = let e : length out' ≡ length out = ap length w.is ∙ length-sets out at written in omega (arith, w.within)
