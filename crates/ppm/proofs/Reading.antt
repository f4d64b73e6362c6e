-- What reader and writer know of a file, the reader by its header's answer, and which answer that comes to. Assumes nothing.
use mathlib.Core.Path.{◌≡◌, refl, sym, ap, ◌∙◌}
use mathlib.Core.Bool.{Bool, true, false, cond, ◌&&◌}
use mathlib.Core.List.{List}
use Prim.Native.Nat.{ℕ, suc, ◌-◌, ◌*◌, ◌≤◌, ◌<◌}
use native.Mathlib.Omega.{arith}
use lib.Dec.{ltb}
use lib.ListN.{length, take, drop, length-drop}
use lib.Seq.{take_all}
use borrow.Author.Tests.{ltb-true}
use Rattle.std.specs.Prelude.{Option, Some, None, Err, ok_or}
use Rattle.rules.specs.declared.Size.{Size}
use Rattle.rules.specs.declared.Refusal.{Refusal}
use Rattle.rules.specs.declared.Refusal.TheVariants as refusal
use Rattle.rules.specs.Answers.{number as number_of, said}
use Rattle.rules.specs.Refusals.{first, off, bad_size, bad_frame}
use Rattle.rules.proofs.Good.{same_of, frame_good}
use Rattle.fields.proofs.Every.{both}
use Rattle.pnm.specs.declared.Head.{Head}
use Rattle.pnm.specs.Header.{number, token, second, third, last, magic, closed, good, header_of, head_said}
use Rattle.ppm.specs.Promise.{size, pixels, tests_body, tests_lent, refuse_size, refuse_read, refuse_write}
use Rattle.ppm.specs.File.{long}
use Rattle.ppm.proofs.Exactly.{read_exact, write_exact}
use Rattle.pnm.proofs.Headers.{Says}
use Rattle.ppm.proofs.Said.{pixels_said, size_refused, read_refused}

-- ---- a good header

-- the byte that ends it is in the file
last_within : (kind : ℕ) (s : List ℕ) → good kind s ≡ true → last s < length s
unfolding good closed
last_within kind s g =
    ltb-true (last s) (length s) (both (ltb (last s) (length s)) _ (both (magic kind s && token s 2 && token s (second s) && token s (third s)) (closed s (last s)) g).1).0

pub record Opened (kind : ℕ) (s : List ℕ) (h : Head) : Type 0 where
  pub says : Says kind s h.width h.height h.maximum (drop h.start s)
  pub at : suc (last s) ≡ h.start
  pub within : h.start ≤ length s
  pub behind : length (drop h.start s) ≡ length s - h.start

-- the header that a file's own numbers make up
abbrev read_of : List ℕ → Head
read_of s = record { width = number s 2; height = number s (second s); maximum = number s (third s); start = suc (last s) }

pub opened : (kind : ℕ) (s : List ℕ) (h : Head) → header_of kind s ≡ Some h → Opened kind s h
unfolding header_of
opened kind s h q = go (good kind s) refl q
  where
    go : (b : Bool) → good kind s ≡ b → cond b (Some (read_of s)) None ≡ Some h → Opened kind s h
    go true g e =
        let l = last_within kind s g in
        let is : read_of s ≡ h = cc in
        rw (← is)
        (record {
          says = record { good = g; wide = refl; tall = refl; maximum = refl; rest = refl; start = omega (arith, length-drop (suc (last s)) s) };
          at = refl;
          within = omega arith;
          behind = length-drop (suc (last s)) s;
        })
    go false g e = absurd cc

pub not_good : (kind : ℕ) (s : List ℕ) → header_of kind s ≡ None → good kind s ≡ false
unfolding header_of
not_good kind s q = go (good kind s) q
  where
    go : (b : Bool) → cond b (Some (read_of s)) None ≡ None → b ≡ false
    go true e = absurd cc
    go false e = refl

-- ---- the refusal number

-- a file with no good header is refused with 11
pub unheaded : {o : Option Head} {e : Refusal} → Err e ≡ ok_or o refusal.Header → o ≡ None → number_of e ≡ head_said None
unheaded is none = ap said (is ∙ ap (λ (o : Option Head). ok_or o refusal.Header) none)

pub bad_size_lem : (s : List ℕ) → header_of 54 s ≡ None → refuse_size s ≡ head_said None
unfolding refuse_size
bad_size_lem s q = rw (not_good 54 s q)

pub bad_read : (s : List ℕ) (lent : ℕ) → header_of 54 s ≡ None → refuse_read s lent ≡ head_said None
unfolding refuse_read
bad_read s lent q = rw (not_good 54 s q)

-- a lent frame as long as the pixels adds no refusal
lent_alike : (z : Size) (top n : ℕ) → first (tests_lent z top n n) ≡ first (tests_body z top n)
lent_alike z top n = go (bad_size z) (off top 255) (bad_frame z n)
  where
    go : (a b c : Bool) → ◌≡◌ {A = ℕ} (cond a 1 (cond b 12 (cond c 13 (cond c 4 0)))) (cond a 1 (cond b 12 (cond c 13 0)))
    go true b c = refl
    go false true c = refl
    go false false true = refl
    go false false false = refl

module _ {s : List ℕ} {h : Head} (o : Opened 54 s h) where
  pub size_number : first (tests_lent (record { w = h.width; h = h.height }) h.maximum (length s - h.start) (length s - h.start)) ≡ refuse_size s
  size_number =
      lent_alike (record { w = h.width; h = h.height }) h.maximum (length s - h.start)
      ∙ sym (size_refused o.says ∙ ap (λ (n : ℕ). first (tests_body (record { w = h.width; h = h.height }) h.maximum n)) o.behind)

  pub read_number : (lent : ℕ) → first (tests_lent (record { w = h.width; h = h.height }) h.maximum (length s - h.start) lent) ≡ refuse_read s lent
  read_number lent = sym (read_refused o.says lent ∙ ap (λ (n : ℕ). first (tests_lent (record { w = h.width; h = h.height }) h.maximum n lent)) o.behind)

-- ---- a call that is not refused

pub lent_fits : (s : List ℕ) (lent : ℕ) → refuse_read s lent ≡ 0 → length (pixels s) ≡ lent
lent_fits s lent e =
    let n = (read_exact s lent).free e in
    frame_good (size s) (length (pixels s)) n.1.1.1.0 ∙ sym (frame_good (size s) lent n.1.1.1.1.0)

-- the part of the file that is copied
pub copied : {s : List ℕ} {h : Head} → Opened 54 s h → take (length s - h.start) (drop h.start s) ≡ pixels s
copied {s} {h} o =
    take_all (length s - h.start) (drop h.start s) (let z : length (drop h.start s) ≤ length s - h.start = omega (arith, o.behind) in z)
    ∙ sym (pixels_said o.says)

pub record Writable (z : Size) (frame out : ℕ) : Type 0 where
  pub pixels : frame ≡ 3 * (z.w * z.h)
  pub whole : out ≡ long z

pub writable : (z : Size) (frame out : ℕ) → refuse_write z frame out ≡ 0 → Writable z frame out
writable z frame out e =
    let n = (write_exact z frame out).free e in
    record { pixels = frame_good z frame n.1.0; whole = same_of out (long z) n.1.1.0 }
