-- Which pixel gives the light: a candidate that no candidate outshines in R+G+B, the lowest position of those that shine as much (`Chosen`). Where a
-- pixel is seen and the share is good there is one (`light_chosen`), it is the only one (`chosen_one`) and a seen pixel (`chosen_seen`), and the light is
-- its colour, with 1 for a channel of 0. So it is of each call that keeps its promise (`lights_chosen`). Assumes nothing.
use mathlib.Core.Path.{◌≡◌, refl, sym, ap, ◌∙◌}
use mathlib.Core.Bool.{Bool, true, false, not, cond}
use mathlib.Core.List.{List, [], ◌∷◌}
use Prim.Native.Nat.{ℕ, suc, ◌+◌, ◌*◌, ◌≤◌, ◌<◌}
use native.Mathlib.Omega.{arith}
use lib.ListN.{length, get_or}
use lib.Dec.{ltb}
use borrow.Author.Tests.{ltb-true, ltb-false, ne_eqb}
use lib.IntN.{ℤ}
use Rattle.rules.specs.Shape.{Shape, described}
use Rattle.rules.specs.declared.Size.{Size}
use Rattle.rules.specs.declared.Settings.{Settings}
use Rattle.rules.specs.declared.Rgb.{Rgb}
use Rattle.rules.specs.declared.Finding.{Finding}
use Rattle.std.specs.Prelude.{Ok}
use Rattle.rules.specs.Window.{Plane, Shown}
use Rattle.rules.specs.Buffers.{masked}
use Rattle.rules.specs.Refusals.{bad_mask, bad_work, bad_seen}
use Rattle.rules.specs.Promise.{finding, no_light, Lights}
use Rattle.rules.proofs.Buffers.{at_masked}
use Rattle.rules.proofs.Good.{SomeSeen, neither, settings_good, mask_good, seen_good}
use Rattle.rules.proofs.Exactly.{light_exact}
use Rattle.rules.proofs.Answers.{or_is}
use Rattle.rules.specs.Light.{at, places, candidates, best, brightest, light}
use Rattle.rules.proofs.Order.{In, here, later, Rising, rising_less}
use Rattle.rules.proofs.Candidates.{m_le, places_some, candidates_many, candidates_rising, candidates_seen}

-- ---- the first of the greatest, in any rising list

-- p stands in the list, no other has a greater value, and none below it the same
pub record Most (g : ℕ → ℕ) (l : List ℕ) (p : ℕ) : Type 0 where
  pub inside : In p l
  pub most : (o : ℕ) → In o l → g o ≤ g p
  pub lowest : (o : ℕ) → In o l → g o ≡ g p → p ≤ o

most_one : (g : ℕ → ℕ) (l : List ℕ) (p q : ℕ) → Most g l p → Most g l q → p ≡ q
most_one g l p q a b =
    let e = a.most q b.inside in
    let f = b.most p a.inside in
    let s : g p ≡ g q = omega arith in
    omega (arith, a.lowest q b.inside (sym s), b.lowest p a.inside s)

-- one more position in front that shines less, and one more behind the first that shines no more
more_front : (g : ℕ → ℕ) (p q w : ℕ) (l : List ℕ) → g p < g q → Most g (q ∷ l) w → Most g (p ∷ q ∷ l) w
more_front g p q w l h a = record { inside = later a.inside; most = most; lowest = lowest }
  where
    above : g p < g w
    above = let j = a.most q (here refl) in omega arith

    most : (o : ℕ) → In o (p ∷ q ∷ l) → g o ≤ g w
    most o (here e) = omega (arith, ap g e, above)
    most o (later i) = a.most o i

    lowest : (o : ℕ) → In o (p ∷ q ∷ l) → g o ≡ g w → w ≤ o
    lowest o (here e) f = absurd (omega (arith, ap g e, above))
    lowest o (later i) f = a.lowest o i f

more_next : (g : ℕ → ℕ) (p q w : ℕ) (l : List ℕ) → g q ≤ g p → p < q → Most g (p ∷ l) w → Most g (p ∷ q ∷ l) w
more_next g p q w l h r a = record { inside = inside w a.inside; most = most; lowest = lowest }
  where
    inside : (o : ℕ) → In o (p ∷ l) → In o (p ∷ q ∷ l)
    inside o (here e) = here e
    inside o (later i) = later (later i)

    first : g p ≤ g w
    first = a.most p (here refl)

    most : (o : ℕ) → In o (p ∷ q ∷ l) → g o ≤ g w
    most o (here e) = a.most o (here e)
    most o (later (here e)) = omega (arith, ap g e, first)
    most o (later (later i)) = a.most o (later i)

    lowest : (o : ℕ) → In o (p ∷ q ∷ l) → g o ≡ g w → w ≤ o
    lowest o (here e) f = a.lowest o (here e) f
    lowest o (later (here e)) f =
        let s : g p ≡ g w = omega (arith, ap g e, first) in
        omega (arith, a.lowest p (here refl) s)
    lowest o (later (later i)) f = a.lowest o (later i) f

-- p is the best so far, and the list goes on above it
best_most : (g : ℕ → ℕ) (p : ℕ) (l : List ℕ) → Rising (suc p) l → Most g (p ∷ l) (best g p l)
best_most g p [] r = record { inside = here refl; most = most; lowest = lowest }
  where
    most : (o : ℕ) → In o (p ∷ []) → g o ≤ g p
    most o (here e) = omega (arith, ap g e)
    most o (later i) = elim i [ ]

    lowest : (o : ℕ) → In o (p ∷ []) → g o ≡ g p → p ≤ o
    lowest o (here e) f = omega arith
    lowest o (later i) f = elim i [ ]
best_most g p (q ∷ l) r = go (ltb (g p) (g q)) refl (best_most g q l r.1) (best_most g p l (rising_less (suc p) (suc q) l (let j = r.0 in omega arith) r.1))
  where
    go : (b : Bool) → ltb (g p) (g q) ≡ b → Most g (q ∷ l) (best g q l) → Most g (p ∷ l) (best g p l) → Most g (p ∷ q ∷ l) (best g (cond b q p) l)
    go true e i j = more_front g p q (best g q l) l (ltb-true (g p) (g q) e) i
    go false e i j = more_next g p q (best g p l) l (ltb-false (g p) (g q) e) (let h = r.0 in omega arith) j

pub brightest_most : (g : ℕ → ℕ) (l : List ℕ) → 0 < length l → Rising 0 l → Most g l (brightest g l)
brightest_most g [] h r = absurd (omega arith)
brightest_most g (p ∷ l) h r = best_most g p l r.1

-- it hangs on the values of the list's members alone
best_same : (g g' : ℕ → ℕ) (p : ℕ) (l : List ℕ) → ((o : ℕ) → In o (p ∷ l) → g o ≡ g' o) → best g p l ≡ best g' p l
best_same g g' p [] h = refl
best_same g g' p (o ∷ l) h =
    rw (← h p (here refl), ← h o (later (here refl))) (go (ltb (g p) (g o)) (best_same g g' o l (λ q i. h q (later i))) (best_same g g' p l less))
  where
    less : (q : ℕ) → In q (p ∷ l) → g q ≡ g' q
    less q (here e) = h q (here e)
    less q (later i) = h q (later (later i))

    go : (b : Bool) → best g o l ≡ best g' o l → best g p l ≡ best g' p l → best g (cond b o p) l ≡ best g' (cond b o p) l
    go true e f = e
    go false e f = f

pub brightest_same : (g g' : ℕ → ℕ) (l : List ℕ) → ((o : ℕ) → In o l → g o ≡ g' o) → brightest g l ≡ brightest g' l
brightest_same g g' [] h = refl
brightest_same g g' (p ∷ l) h = best_same g g' p l h

-- ---- the light

-- a channel i as the light has it
pub record Lifted (i a : ℕ) : Type 0 where
  pub none : i ≡ 0 → a ≡ 1
  pub some : 0 < i → a ≡ i

module _ (z : Shape) (k : Settings) (f : Plane (Shown Rgb)) where
  -- R+G+B at a position
  abbrev pub shine : ℕ → ℕ
  shine p = (at z f p).value.r + (at z f p).value.g + (at z f p).value.b

  -- the light is that of position p
  pub record Chosen (p : ℕ) (a : Rgb) : Type 0 where
    pub candidate : Most shine (candidates z k f) p
    pub red : Lifted (at z f p).value.r a.r
    pub green : Lifted (at z f p).value.g a.g
    pub blue : Lifted (at z f p).value.b a.b

  pub light_chosen : 0 < length (places z f) → k.share ≤ 1000 → (p : ℕ) × Chosen p (light z k f)
  unfolding light
  light_chosen h l =
      let n = candidates_many z k f (m_le (length (places z f)) k h l) in (
        brightest shine (candidates z k f),
        record {
          candidate = brightest_most shine (candidates z k f) (omega arith) (candidates_rising z k f);
          red = record { none = λ e. omega arith; some = λ e. omega arith };
          green = record { none = λ e. omega arith; some = λ e. omega arith };
          blue = record { none = λ e. omega arith; some = λ e. omega arith };
        },
      )

  pub chosen_one : (p q : ℕ) (a b : Rgb) → Chosen p a → Chosen q b → p ≡ q
  chosen_one p q a b c d = most_one shine (candidates z k f) p q c.candidate d.candidate

  pub chosen_seen : (p : ℕ) (a : Rgb) → Chosen p a → (at z f p).seen ≡ true
  chosen_seen p a c = candidates_seen z k f p c.candidate.inside

-- a mask with a byte that is not 0 shows a pixel
pub places_of : (z : Shape) (mask frame : List ℕ) → length mask ≡ z.w * z.h → SomeSeen mask → 0 < length (places z (masked z mask frame))
places_of z mask frame n s =
    let p = s.0 in
    let h : p < length mask = s.1 in
    let seen : (at z (masked z mask frame) p).seen ≡ true =
    ap (λ (i : Shown Rgb). i.seen) (at_masked z mask frame p) ∙ ap not (ne_eqb (get_or mask p 0) 0 s.2) in
    places_some z (masked z mask frame) p (omega arith) seen

-- of a call that keeps its promise and is not refused
pub lights_chosen :
    (z : Size) (k : Settings) (mask frame : List ℕ) (work work' : List ℤ) (a : Finding)
    → Lights z k mask frame work (Ok a) work'
    → (p : ℕ) × Chosen (described z) k (masked (described z) mask frame) p a.light
lights_chosen z k mask frame work work' a q =
    let n = no_light z k mask frame work in
    let f = masked (described z) mask frame in
    let is = or_is n (finding z k mask frame) a q.answer in
    let free : n ≡ 0 = is.0 in
    let none = (light_exact z k (length mask) (bad_seen mask) (length frame) (length work)).free free in
    let shown = mask_good z (length mask) (neither (bad_mask z (length mask)) (bad_work z (length work)) none.1.1.1.0).0 in
    let some = places_of (described z) mask frame shown (seen_good mask none.1.1.1.1.0) in
    let e : a ≡ finding z k mask frame = is.1 in
    rw e (light_chosen (described z) k f some (settings_good k none.1.0).share_most)
