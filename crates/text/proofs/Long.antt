-- A bounded buffer is enough: an input longer than `longest`, as no good text is, is refused, and so is its beginning, with the same number at the
-- same line. Assumes nothing.
use mathlib.Core.Path.{◌≡◌, refl, sym, ap, ap₂, subst, ◌∙◌}
use mathlib.Core.Bool.{Bool, true, false, cond}
use mathlib.Core.List.{List, [], ◌∷◌}
use Prim.Native.Nat.{ℕ, zero, suc, ◌+◌, ◌-◌, ◌*◌, ◌^◌, ◌≤◌, ◌<◌}
use native.Mathlib.Decide.{dec_lt}
use native.Mathlib.Nat.{sub-zero, pow-le-pow_right, pow-succ'}
use native.Mathlib.Omega.{arith}
use lib.Dec.{ltb, leb, eqb}
use lib.ListN.{length, get_or, take, drop, replicate, length-drop}
use lib.Seq.{take-nil, take-take, length-take-le}
use borrow.Author.Tests.{lt-ltb, le-ltb, eq-eqb, leb-true}
use Rattle.fields.specs.declared.Class.{Class}
use Rattle.fields.specs.declared.Class.TheVariants.{Digit, Lower, Tab, LineEnd, Other}
use Rattle.fields.specs.declared.Line.{Line}
use Rattle.std.specs.Prelude.{Option, Some, None}
use Rattle.fields.specs.Words.{bytes}
use Rattle.fields.specs.Bytes.{class_of, counted, on_class, scan, line_of}
use Rattle.fields.specs.Every.{every}
use Rattle.fields.specs.Fields.{joined, split, field_of}
use Rattle.fields.specs.Decimal.{digit, led, digits, numeral, value_from, number_of, value_in}
use Rattle.fields.proofs.Decimal.{numeral_most, numeral_led, numeral_digits}
use Rattle.fields.proofs.Every.{both}
use Rattle.fields.proofs.Lines.{some_part, broken, Ended, ended}
use Rattle.records.specs.declared.Kind.{Kind}
use Rattle.records.specs.declared.Kind.TheVariants.{Size, Set, Px}
use Rattle.records.specs.Records.{number_at, size_of, bright, fault}
use Rattle.records.specs.Judging.{Verdict, bad, onward, judge, line_at, cells}
use Rattle.text.specs.Text.{verdict, replied, reply}
use Rattle.records.proofs.Records.{size_unlaid, set_unlaid, px_unlaid, px_bright, px_good}
use Rattle.fields.specs.LaidOut.{laid}
use Rattle.fields.proofs.LaidOut.{laid_known}
use Rattle.records.proofs.Passing.{judge_broken, judge_ended}
use Rattle.records.proofs.Frames.{size_facts, Small, px_facts, few}
use Rattle.text.proofs.Answering.{judge_more}

-- ---- how long a number can be

-- each digit makes what is read so far ten times as large, or larger
value_least : (s : List ℕ) (k v : ℕ) → 10 ^ k ≤ v → 10 ^ (k + length s) ≤ value_from v s
value_least [] k v h = let e : k ≡ k + 0 = omega arith in subst (λ (j : ℕ). 10 ^ j ≤ v) e h
value_least (b ∷ bs) k v h =
    let p : 10 ^ suc k ≡ 10 * 10 ^ k = pow-succ' 10 k in
    let a : 10 ^ (suc k + length bs) ≤ value_from (10 * v + (b - 48)) bs = value_least bs (suc k) (10 * v + (b - 48)) (omega arith) in
    let e : suc k + length bs ≡ k + suc (length bs) = omega arith in
    subst (λ (j : ℕ). 10 ^ j ≤ value_from (10 * v + (b - 48)) bs) e a

led_first : (b : ℕ) (bs : List ℕ) → 0 < length bs → led (b ∷ bs) ≡ true → b ≡ 48 → ⊥
led_first b bs h l e =
    let f : led (b ∷ bs) ≡ false = rw (lt-ltb 1 (suc (length bs)) (let z : 1 < suc (length bs) = omega arith in z), eq-eqb b 48 e) in
    let n : ◌≡◌ {A = ℕ} 1 0 = ap (λ (t : Bool). cond t 1 0) (sym l ∙ f) in
    omega arith

value_of : (s : List ℕ) → numeral s ≡ true → value_in (number_of s) ≡ value_from 0 s
unfolding number_of
value_of s h = rw h

-- a number below 10 ^ n has at most n digits
numeral_short : (n : ℕ) (s : List ℕ) → 0 < n → numeral s ≡ true → value_in (number_of s) < 10 ^ n → length s ≤ n
numeral_short n [] o h v = omega arith
numeral_short n (b ∷ bs) o h v = go (dec_lt n (suc (length bs)))
  where
    go : Dec (n < suc (length bs)) → suc (length bs) ≤ n
    go (no s) = omega arith
    go (yes s) =
        let d = (both (leb 48 b) (leb b 57) (both (digit b) (digits bs) (numeral_digits (b ∷ bs) h)).0).0 in
        let low : 48 ≤ b = leb-true 48 b d in
        let more : b ≡ 48 → ⊥ = led_first b bs (omega arith) (numeral_led (b ∷ bs) h) in
        let first : 1 ≤ 10 * 0 + (b - 48) = omega arith in
        let a : 10 ^ (0 + length bs) ≤ value_from (10 * 0 + (b - 48)) bs = value_least bs 0 (10 * 0 + (b - 48)) first in
        let c : 10 ^ n ≤ 10 ^ (0 + length bs) = pow-le-pow_right {n = 10} (omega arith) (let z : n ≤ 0 + length bs = omega arith in z) in
        let e = value_of (b ∷ bs) h in
        absurd (let z : ⊥ = omega arith in z)

-- ---- how long a line can be whose fault is not 9

-- the fields with a tab or the line end after each
abbrev span : List (List ℕ) → ℕ
span [] = 0
span (f ∷ fs) = suc (length f) + span fs

span_split : (l : List ℕ) → span (split 9 l) ≡ suc (length l)
span_split [] = refl
span_split (x ∷ xs) = go (eqb x 9) (split 9 xs) (some_part 9 xs) (span_split xs)
  where
    go : (t : Bool) (fs : List (List ℕ)) → 0 < length fs → span fs ≡ suc (length xs) → span (joined t x fs) ≡ suc (suc (length xs))
    go t [] h e = absurd (let z : ⊥ = omega arith in z)
    go true (f ∷ fs) h e = omega arith
    go false (f ∷ fs) h e = omega arith

span_numbers : (fs : List (List ℕ)) → every numeral fs ≡ true → span fs ≤ 7 * length fs
span_numbers [] h = omega arith
span_numbers (f ∷ fs) h =
    let p = both (numeral f) (every numeral fs) h in
    let a = numeral_most f p.0 in
    let b = span_numbers fs p.1 in
    omega arith

span_fields : (word : List ℕ) (n : ℕ) (fs : List (List ℕ)) → get_or fs 0 [] ≡ word → length fs ≡ suc n → every numeral (drop 1 fs) ≡ true
    → span fs ≤ suc (length word) + 7 * n
span_fields word n [] s e h = absurd (let z : ⊥ = omega arith in z)
span_fields word n (f ∷ fs) s e h =
    let a : length f ≡ length word = ap length s in
    let b = span_numbers fs h in
    omega arith

laid_short : (word : List ℕ) (n : ℕ) (line : List ℕ) → laid numeral word n line ≡ true → length line ≤ length word + 7 * n
unfolding field_of
laid_short word n line h =
    let l = laid_known numeral word line n h in
    let a = span_fields word n (split 9 line) l.first l.count l.others in
    let b = span_split line in
    omega arith

-- a `px` line has numbers up to 255
three_digits : (f : List ℕ) → numeral f ≡ true → value_in (number_of f) ≤ 255 → length f ≤ 3
three_digits f h v = numeral_short 3 f (omega arith) h (let z : value_in (number_of f) < 1000 = omega arith in z)

span_px : (fs : List (List ℕ)) → get_or fs 0 [] ≡ bytes "px" → length fs ≡ 4 → every numeral (drop 1 fs) ≡ true
    → value_in (number_of (get_or fs 1 [])) ≤ 255 → value_in (number_of (get_or fs 2 [])) ≤ 255 → value_in (number_of (get_or fs 3 [])) ≤ 255 → span fs ≤ 15
span_px (w ∷ r ∷ g ∷ b ∷ []) s e h x y z =
    let l : length w ≡ 2 = ap length s in
    let p = both (numeral r) (every numeral (g ∷ b ∷ [])) h in
    let q = both (numeral g) (every numeral (b ∷ [])) p.1 in
    let o = both (numeral b) true q.1 in
    let i = three_digits r p.0 x in
    let j = three_digits g q.0 y in
    let k = three_digits b o.0 z in
    omega arith
span_px [] s e h x y z = absurd (let n : ⊥ = omega arith in n)
span_px (_ ∷ []) s e h x y z = absurd (let n : ⊥ = omega arith in n)
span_px (_ ∷ _ ∷ []) s e h x y z = absurd (let n : ⊥ = omega arith in n)
span_px (_ ∷ _ ∷ _ ∷ []) s e h x y z = absurd (let n : ⊥ = omega arith in n)
span_px (_ ∷ _ ∷ _ ∷ _ ∷ _ ∷ _) s e h x y z = absurd (let n : ⊥ = omega arith in n)

px_short : (line : List ℕ) → laid numeral (bytes "px") 3 line ≡ true → Small line → length line ≤ 14
unfolding number_at field_of
px_short line h v =
    let l = laid_known numeral (bytes "px") line 3 h in
    let a = span_px (split 9 line) l.first l.count l.others v.red v.green v.blue in
    let b = span_split line in
    omega arith

-- a line of each kind that is as long, without its line end, has fault 9
abbrev pub most : Kind → ℕ
most Size = 19
most Set = 46
most Px = 15

unlaid_long : (word : List ℕ) (n : ℕ) (line : List ℕ) → length word + 7 * n < length line → laid numeral word n line ≡ false
unlaid_long word n line h = go (laid numeral word n line) refl
  where
    go : (t : Bool) → laid numeral word n line ≡ t → t ≡ false
    go false e = refl
    go true e = let a = laid_short word n line e in absurd (let z : ⊥ = omega arith in z)

too_long : (k : Kind) (line : List ℕ) → most k ≤ length line → fault k line ≡ 9
too_long Size line h = sym (size_unlaid line (unlaid_long (bytes "size") 2 line (omega arith)))
too_long Set line h = sym (set_unlaid line (unlaid_long (bytes "set") 6 line (omega arith)))
too_long Px line h = go (laid numeral (bytes "px") 3 line) refl
  where
    at_most : (l : laid numeral (bytes "px") 3 line ≡ true) (t : Bool) → bright line ≡ t → fault Px line ≡ 9
    at_most l true e = sym (px_bright line l e)
    at_most l false e =
        let a = px_short line l (px_facts line (sym (px_good line l e))) in
        absurd (let z : ⊥ = omega arith in z)

    go : (t : Bool) → laid numeral (bytes "px") 3 line ≡ t → fault Px line ≡ 9
    go false e = sym (px_unlaid line e)
    go true e = at_most e (bright line) refl

-- ---- the reader on the beginning of a text

abbrev cut : ℕ → Option Line → Option Line
cut b (Some x) = cond (ltb x.end b) (Some x) None
cut b None = None

cut_class : (k : Class) (i m f : ℕ) (rest : Option Line) → on_class k i f (cut (suc i + m) rest) ≡ cut (i + suc m) (on_class k i f rest)
cut_class Digit i m f rest = let e : suc i + m ≡ i + suc m = omega arith in ap (λ (b : ℕ). cut b rest) e
cut_class Lower i m f rest = let e : suc i + m ≡ i + suc m = omega arith in ap (λ (b : ℕ). cut b rest) e
cut_class Tab i m f rest = let e : suc i + m ≡ i + suc m = omega arith in ap (λ (b : ℕ). cut b rest) e
cut_class LineEnd i m f rest = let h : i < i + suc m = omega arith in sym (ap (λ (t : Bool). cond t (Some (record { end = i; fields = f })) None) (lt-ltb i (i + suc m) h))
cut_class Other i m f rest = refl

-- a line does not end before it begins
cut_none : (l : List ℕ) (i b f : ℕ) → b ≤ i → cut b (scan l i f) ≡ None
cut_none [] i b f h = refl
cut_none (x ∷ xs) i b f h = go (class_of x) (cut_none xs (suc i) b (counted (class_of x) f) (omega arith))
  where
    go : (k : Class) → cut b (scan xs (suc i) (counted (class_of x) f)) ≡ None → cut b (on_class k i f (scan xs (suc i) (counted (class_of x) f))) ≡ None
    go Digit e = e
    go Lower e = e
    go Tab e = e
    go LineEnd e = ap (λ (t : Bool). cond t (Some (record { end = i; fields = f })) None) (le-ltb i b h)
    go Other e = refl

scan_cut : (l : List ℕ) (m i f : ℕ) → scan (take m l) i f ≡ cut (i + m) (scan l i f)
scan_cut [] zero i f = refl
scan_cut [] (suc m) i f = refl
scan_cut (x ∷ xs) zero i f = sym (cut_none (x ∷ xs) i (i + 0) f (omega arith))
scan_cut (x ∷ xs) (suc m) i f =
    ap (on_class (class_of x) i f) (scan_cut xs m (suc i) (counted (class_of x) f)) ∙ cut_class (class_of x) i m f (scan xs (suc i) (counted (class_of x) f))

line_cut : (t : List ℕ) (m : ℕ) (r : Option Line) → line_of t 0 ≡ r → line_of (take m t) 0 ≡ cut m r
unfolding line_of
line_cut t m r e = let z : 0 + m ≡ m = omega arith in scan_cut t m 0 1 ∙ ap₂ cut z e

-- ---- two texts that are refused alike

record Alike (v w : Verdict) : Type 0 where
  n : ℕ
  l : ℕ
  first : v ≡ bad n l
  second : w ≡ bad n l

drop_take : (a m : ℕ) (s : List ℕ) → drop a (take m s) ≡ take (m - a) (drop a s)
drop_take zero m s = ap (λ (k : ℕ). take k s) (sym (sub-zero m))
drop_take (suc a) zero s = let e : 0 - suc a ≡ 0 = omega arith in sym (ap (λ (k : ℕ). take k (drop (suc a) s)) e)
drop_take (suc a) (suc m) [] = sym (take-nil (suc m - suc a))
drop_take (suc a) (suc m) (x ∷ xs) = let e : m - a ≡ suc m - suc a = omega arith in drop_take a m xs ∙ ap (λ (k : ℕ). take k (drop a xs)) e

-- the same accepted line at the front of both
record Front (k : Kind) (t u : List ℕ) (e : ℕ) : Type 0 where
  short : e < most k
  inside : e < length t
  first : split 10 t ≡ take e t ∷ split 10 (drop (e + 1) t)
  second : split 10 u ≡ take e t ∷ split 10 (drop (e + 1) u)
  sound : fault k (take e t) ≡ 0

module _ (k : Kind) (l : ℕ) (t : List ℕ) (m : ℕ) (room : most k ≤ m) (ks js : List Kind)
    (more : (e : ℕ) → Front k t (take m t) e
    → Alike (judge ks (suc l) (split 10 (drop (e + 1) t))) (judge js (suc l) (split 10 (drop (e + 1) (take m t))))) where
  -- the judge on a line that ends at e
  judged : (hs : List Kind) (s : List ℕ) (e : ℕ) → split 10 s ≡ take e t ∷ split 10 (drop (e + 1) s) → (f : ℕ) → fault k (take e t) ≡ f
      → judge (k ∷ hs) l (split 10 s) ≡ onward f l (judge hs (suc l) (split 10 (drop (e + 1) s)))
  judged hs s e p f q =
      ap (judge (k ∷ hs) l) p ∙ judge_ended k hs l (take e t) (split 10 (drop (e + 1) s)) (some_part 10 (drop (e + 1) s))
      ∙ ap (λ (n : ℕ). onward n l (judge hs (suc l) (split 10 (drop (e + 1) s)))) q

  both_end : (e : ℕ) → e < length t → split 10 t ≡ take e t ∷ split 10 (drop (e + 1) t)
      → split 10 (take m t) ≡ take e t ∷ split 10 (drop (e + 1) (take m t)) → (f : ℕ) → fault k (take e t) ≡ f
      → Alike (judge (k ∷ ks) l (split 10 t)) (judge (k ∷ js) l (split 10 (take m t)))
  both_end e h p q (suc f) g = record { n = suc f; l = l; first = judged ks t e p (suc f) g; second = judged js (take m t) e q (suc f) g }
  both_end e h p q zero g =
      let a = more e (record { short = short (dec_lt e (most k)); inside = h; first = p; second = q; sound = g }) in
      record { n = a.n; l = a.l; first = judged ks t e p 0 g ∙ a.first; second = judged js (take m t) e q 0 g ∙ a.second }
    where
      short : Dec (e < most k) → e < most k
      short (yes s) = s
      short (no s) =
          let n : length (take e t) ≡ e = length-take-le e t (omega arith) in
          let z = too_long k (take e t) (let y : most k ≤ length (take e t) = omega arith in y) in
          absurd (let y : ⊥ = omega arith in y)

  at_line : (r : Option Line) → line_of t 0 ≡ r → Alike (judge (k ∷ ks) l (split 10 t)) (judge (k ∷ js) l (split 10 (take m t)))
  at_line None q =
      record {
        n = 9;
        l = l;
        first = judge_broken k ks l (split 10 t) (broken t 0 q);
        second = judge_broken k js l (split 10 (take m t)) (broken (take m t) 0 (line_cut t m None q));
      }
  at_line (Some x) q = go (dec_lt x.end m)
    where
      p : Ended t 0 x.end x.fields
      p = ended t 0 x.end x.fields (omega arith) q

      front : split 10 t ≡ take x.end t ∷ split 10 (drop (x.end + 1) t)
      front = p.line ∙ ap (λ (i : ℕ). take i t ∷ split 10 (drop (x.end + 1) t)) (sub-zero x.end)

      go : Dec (x.end < m) → Alike (judge (k ∷ ks) l (split 10 t)) (judge (k ∷ js) l (split 10 (take m t)))
      go (yes h) =
          let c : line_of (take m t) 0 ≡ Some x = line_cut t m (Some x) q ∙ ap (λ (b : Bool). cond b (Some x) None) (lt-ltb x.end m h) in
          let o = ended (take m t) 0 x.end x.fields (omega arith) c in
          let s : take (x.end - 0) (take m t) ≡ take x.end t = ap (λ (i : ℕ). take i (take m t)) (sub-zero x.end) ∙ take-take x.end m t (omega arith) in
          both_end x.end p.within front (o.line ∙ ap (λ (w : List ℕ). w ∷ split 10 (drop (x.end + 1) (take m t))) s) (fault k (take x.end t)) refl
      go (no h) =
          let c : line_of (take m t) 0 ≡ None =
          line_cut t m (Some x) q ∙ ap (λ (b : Bool). cond b (Some x) None) (le-ltb x.end m (let z : m ≤ x.end = omega arith in z)) in
          let z : length (take x.end t) ≡ x.end = length-take-le x.end t (omega (arith, p.within)) in
          let f = too_long k (take x.end t) (let y : most k ≤ length (take x.end t) = omega arith in y) in
          record {
            n = 9;
            l = l;
            first = judged ks t x.end front 9 f;
            second = judge_broken k js l (split 10 (take m t)) (broken (take m t) 0 c);
          }

  line_alike : Alike (judge (k ∷ ks) l (split 10 t)) (judge (k ∷ js) l (split 10 (take m t)))
  line_alike = at_line (line_of t 0) refl

-- what follows the first line of both
after : (v : List ℕ → Verdict) (e m : ℕ) (t : List ℕ) (w : Verdict) → Alike w (v (take (m - (e + 1)) (drop (e + 1) t))) → Alike w (v (drop (e + 1) (take m t)))
after v e m t w a = record { n = a.n; l = a.l; first = a.first; second = ap v (drop_take (e + 1) m t) ∙ a.second }

pixels_alike : (n l : ℕ) (t : List ℕ) (m : ℕ) → 15 * n < m → m ≤ length t
    → Alike (judge (replicate n Px) l (split 10 t)) (judge (replicate n Px) l (split 10 (take m t)))
pixels_alike zero l t m h r =
    let z : length (take m t) ≡ m = length-take-le m t r in
    record { n = 9; l = l; first = judge_more l t 0 (omega arith); second = judge_more l (take m t) 0 (omega arith) }
pixels_alike (suc n) l t m h r =
    line_alike Px l t m (omega arith) (replicate n Px) (replicate n Px)
    (λ e f.
    let d : length (drop (e + 1) t) ≡ length t - (e + 1) = length-drop (e + 1) t in
    let a : 15 * n < m - (e + 1) = omega (arith, f.short) in
    let b : m - (e + 1) ≤ length (drop (e + 1) t) = omega arith in
    after (λ s. judge (replicate n Px) (suc l) (split 10 s)) e m t _ (pixels_alike n (suc l) (drop (e + 1) t) (m - (e + 1)) a b))

-- ---- the whole text: `size`, `set`, and at most 576 lines `px`

-- no good text is longer
abbrev pub longest : ℕ
longest = 8705

front_line : {k : Kind} {t u : List ℕ} {e : ℕ} → Front k t u e → (line_at t 0 ≡ take e t) × (line_at u 0 ≡ take e t)
unfolding field_of
front_line f = (ap (λ (ps : List (List ℕ)). get_or ps 0 []) f.first, ap (λ (ps : List (List ℕ)). get_or ps 0 []) f.second)

settings_alike : (c l : ℕ) (t : List ℕ) (m : ℕ) → c ≤ 576 → 8686 < m → m ≤ length t
    → Alike (judge (Set ∷ replicate c Px) l (split 10 t)) (judge (Set ∷ replicate c Px) l (split 10 (take m t)))
settings_alike c l t m hc h r =
    line_alike Set l t m (omega arith) (replicate c Px) (replicate c Px)
    (λ e f.
    let d : length (drop (e + 1) t) ≡ length t - (e + 1) = length-drop (e + 1) t in
    let a : 15 * c < m - (e + 1) = omega (arith, f.short) in
    let b : m - (e + 1) ≤ length (drop (e + 1) t) = omega arith in
    after (λ s. judge (replicate c Px) (suc l) (split 10 s)) e m t _ (pixels_alike c (suc l) (drop (e + 1) t) (m - (e + 1)) a b))

verdict_alike : (input : List ℕ) → longest < length input → Alike (verdict input) (verdict (take (longest + 1) input))
unfolding verdict
verdict_alike input h =
    let c : List ℕ → ℕ = λ s. cells (size_of (line_at s 0)) in
    line_alike Size 1 input (longest + 1) (omega arith) (Set ∷ replicate (c input) Px) (Set ∷ replicate (c (take (longest + 1) input)) Px)
    (λ e f.
    let p = front_line f in
    let same : c input ≡ c (take (longest + 1) input) = ap (λ (s : List ℕ). cells (size_of s)) (p.0 ∙ sym p.1) in
    let small : c input ≤ 576 = rw p.0 (few (size_of (take e input)) (size_facts (take e input) f.sound).1) in
    let d : length (drop (e + 1) input) ≡ length input - (e + 1) = length-drop (e + 1) input in
    let a : 8686 < longest + 1 - (e + 1) = omega (arith, f.short) in
    let b : longest + 1 - (e + 1) ≤ length (drop (e + 1) input) = omega arith in
    after (λ s. judge (Set ∷ replicate (c (take (longest + 1) input)) Px) 2 (split 10 s)) e (longest + 1) input _
    (subst (λ (n : ℕ). Alike (judge (Set ∷ replicate (c input) Px) 2 (split 10 (drop (e + 1) input)))
    (judge (Set ∷ replicate n Px) 2 (split 10 (take (longest + 1 - (e + 1)) (drop (e + 1) input))))) same
    (settings_alike (c input) 2 (drop (e + 1) input) (longest + 1 - (e + 1)) small a b)))

-- an input that is longer has the answer of as many bytes and one
pub long : (input : List ℕ) → longest < length input → reply (take (longest + 1) input) ≡ reply input
unfolding reply
long input h =
    let a = verdict_alike input h in
    ap (λ (v : Verdict). replied v (take (longest + 1) input)) a.second ∙ sym (ap (λ (v : Verdict). replied v input) a.first)
