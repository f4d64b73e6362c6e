-- What it means to be near a rectangle and far from it, as orders: each pixel is the one or the other. And a pixel far from it sees no pixel of it.
-- Assumes nothing.
use mathlib.Core.Path.{◌≡◌, refl, sym, ◌∙◌}
use mathlib.Core.Logic.{◌⊎◌, inl, inr}
use mathlib.Core.Bool.{Bool, true, false, ◌&&◌, true≢false}
use Prim.Native.Nat.{ℕ, suc, ◌+◌, ◌≤◌, ◌<◌}
use native.Mathlib.Omega.{arith}
use native.Mathlib.Decide.{dec_le}
use borrow.Author.Tests.{ltb-true, leb-true, lt-ltb, le-leb}
use lib.Dec.{ltb, leb}
use Rattle.rules.specs.Shape.{Shape}
use Rattle.rules.specs.declared.Rect.{Rect}
use Rattle.rules.specs.Buffers.{near}
use Rattle.rules.proofs.Local.{Within}

-- two tests that both pass
pub both : (a b : Bool) → a ≡ true → b ≡ true → (a && b) ≡ true
both true b p q = q
both false b p q = p

pub apart : (a b : Bool) → (a && b) ≡ true → (a ≡ true) × (b ≡ true)
apart true b e = (refl, e)
apart false b e = absurd (true≢false (sym e))

-- two tests that pass alike
pub same_test : (a b : Bool) → (a ≡ true → b ≡ true) → (b ≡ true → a ≡ true) → a ≡ b
same_test true b f g = sym (f refl)
same_test false true f g = g refl
same_test false false f g = refl

-- at most q rows and q columns from the rectangle: `near` as orders
pub record Near (q : ℕ) (c : Rect) (y x : ℕ) : Type 0 where
  pub top : c.y ≤ y + q
  pub bottom : y < c.y + c.h + q
  pub left : c.x ≤ x + q
  pub right : x < c.x + c.w + q

pub near_yes : (q : ℕ) (c : Rect) (y x : ℕ) → Near q c y x → near q c y x ≡ true
unfolding near
near_yes q c y x n =
    both _ _ (both _ _ (le-leb _ _ n.top) (lt-ltb _ _ n.bottom)) (both _ _ (le-leb _ _ n.left) (lt-ltb _ _ n.right))

pub near_facts : (q : ℕ) (c : Rect) (y x : ℕ) → near q c y x ≡ true → Near q c y x
unfolding near
near_facts q c y x e =
    let t = leb c.y (y + q) in
    let b = ltb y (c.y + c.h + q) in
    let l = leb c.x (x + q) in
    let r = ltb x (c.x + c.w + q) in
    let both_ways = apart (t && b) (l && r) e in
    let rows = apart t b both_ways.0 in
    let columns = apart l r both_ways.1 in
    record {
      top = leb-true _ _ rows.0;
      bottom = ltb-true _ _ rows.1;
      left = leb-true _ _ columns.0;
      right = ltb-true _ _ columns.1;
    }

-- farther than q from the rectangle, in rows or in columns
pub data Far (q : ℕ) (c : Rect) (y x : ℕ) : Type 0 where
  above : y + q < c.y → Far q c y x
  below : c.y + c.h + q ≤ y → Far q c y x
  left : x + q < c.x → Far q c y x
  right : c.x + c.w + q ≤ x → Far q c y x

pub far_no : (q : ℕ) (c : Rect) (y x : ℕ) → Far q c y x → near q c y x ≡ false
far_no q c y x f = go (near q c y x) refl f
  where
    go : (b : Bool) → near q c y x ≡ b → Far q c y x → near q c y x ≡ false
    go false e f = e
    go true e (above h) = let n = near_facts q c y x e in absurd (omega arith)
    go true e (below h) = let n = near_facts q c y x e in absurd (omega arith)
    go true e (left h) = let n = near_facts q c y x e in absurd (omega arith)
    go true e (right h) = let n = near_facts q c y x e in absurd (omega arith)

pub near_or_far : (q : ℕ) (c : Rect) (y x : ℕ) → Near q c y x ⊎ Far q c y x
near_or_far q c y x = go (dec_le c.y (y + q)) (dec_le (suc y) (c.y + c.h + q)) (dec_le c.x (x + q)) (dec_le (suc x) (c.x + c.w + q))
  where
    go : Dec (c.y ≤ y + q) → Dec (y < c.y + c.h + q) → Dec (c.x ≤ x + q) → Dec (x < c.x + c.w + q) → Near q c y x ⊎ Far q c y x
    go (yes t) (yes b) (yes l) (yes r) = inl (record { top = t; bottom = b; left = l; right = r })
    go (no t) b l r = inr (above (omega arith))
    go (yes t) (no b) l r = inr (below (omega arith))
    go (yes t) (yes b) (no l) r = inr (left (omega arith))
    go (yes t) (yes b) (yes l) (no r) = inr (right (omega arith))

-- a pixel that is farther than q from the rectangle has no pixel of it within q
pub far_sees : (z : Shape) (q : ℕ) (c : Rect) (y x v u : ℕ) → near q c y x ≡ false → Within z q y x v u → near 0 c v u ≡ false
far_sees z q c y x v u e w = go (near 0 c v u) refl
  where
    go : (b : Bool) → near 0 c v u ≡ b → near 0 c v u ≡ false
    go false f = f
    go true f =
        let n : Near 0 c v u = near_facts 0 c v u f in
        let m : Near q c y x = record { top = omega arith; bottom = omega arith; left = omega arith; right = omega arith } in
        absurd (true≢false (sym (near_yes q c y x m) ∙ e))
