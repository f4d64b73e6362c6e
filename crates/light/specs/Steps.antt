-- What the parts of the light's search leave: the plane of levels, the counts, the cutoff, the candidate that is kept. Assumes nothing.
use Rattle.std.specs.Prelude.{◌≡◌, Bool, cond, ◌&&◌, ◌||◌, List, [], ◌∷◌, ℕ, ◌+◌, ◌-◌, ◌*◌, ◌%◌, ◌≤◌, ◌<◌, min, max, ltb, leb, eqb, length, get_or, drop, ℤ, pos, nat_abs}
use Rattle.rules.specs.Shape.{Shape, described}
use Rattle.rules.specs.declared.Size.{Size}
use Rattle.rules.specs.declared.Settings.{Settings}
use Rattle.rules.specs.declared.Finding.{Finding}
use Rattle.rules.specs.Window.{Plane, from, total}
use Rattle.rules.specs.Light.{darkest, dark, at, guide, count, keep, best, brightest, lifted, light}
use Rattle.rules.specs.Buffers.{pixel_at, pixels, seen_in, masked}
use Rattle.rules.specs.Promise.{wiped, finding}
use Rattle.planes.specs.Cells.{SameFrom}
use Rattle.windows.specs.Span.{windowed}
use Rattle.light.specs.declared.Cut.{Cut}
use Rattle.light.specs.declared.Leader.{Leader}
use Rattle.light.specs.declared.Walk.{Walk}

-- ---- what a hidden pixel counts as

-- in the minimum 255, which lowers none
abbrev pub least_by : ℕ → ℕ → ℕ
least_by m d = cond (eqb m 0) 255 d

-- the level of a pixel of dark value d under the mask's byte m: one more than d, and 0 of a hidden one
abbrev pub level_by : ℕ → ℕ → ℕ
level_by m d = cond (eqb m 0) 0 (d + 1)

-- ---- the plane of levels, at the work area's start

-- the entry at p as a natural
abbrev pub value : List ℤ → ℕ → ℕ
value w p = nat_abs (get_or w p (pos 0))

-- the first n entries are levels
abbrev pub Levels : ℕ → List ℤ → Type 0
Levels n w = (p : ℕ) → p < n → (get_or w p (pos 0) ≡ pos (value w p)) × (value w p ≤ 256)

-- the least bytes of the pixels, each over its window of radius s along the row
abbrev pub least_along : Shape → ℕ → List ℕ → List ℕ → Plane ℕ
least_along z s mask frame y x = windowed min (λ u. cond (seen_in z mask y u) (darkest (pixels z frame y u)) 255) s z.w x

-- m is l but for n entries from `to` on, which are those of g
pub record RowPut (l m : List ℤ) (to : ℕ) (g : ℕ → ℕ) (n : ℕ) : Type 0 where
  pub row : (x : ℕ) → x < n → get_or m (to + x) (pos 0) ≡ pos (g x)
  pub kept : (i : ℕ) → (to ≤ i → i < to + n → ⊥) → get_or m i (pos 0) ≡ get_or l i (pos 0)

-- ---- counts

-- the positions before n
abbrev pub upto : ℕ → List ℕ
upto n = from 0 n (λ p. p)

-- how many of the positions before n have the value v
abbrev pub hits : (ℕ → ℕ) → ℕ → ℕ → ℕ
hits d n v = count (λ o. eqb v (d o)) (upto n)

-- the first n entries are those of g
abbrev pub Starts : (ℕ → ℕ) → ℕ → List ℕ → Type 0
Starts g n l = (v : ℕ) → v < n → get_or l v 0 ≡ g v

abbrev pub Tallied : (ℕ → ℕ) → ℕ → List ℕ → Type 0
Tallied d n = Starts (hits d n) 257

-- where position p is counted: in one of the four lanes of its value
abbrev pub lane : (ℕ → ℕ) → ℕ → ℕ
lane d p = 4 * d p + p % 4

-- none of the counts is above n
abbrev pub Below : ℕ → List ℕ → Type 0
Below n l = (v : ℕ) → v < 1028 → get_or l v 0 ≤ n

-- or above the pixels of the largest frame
abbrev pub Few : List ℕ → Type 0
Few = Below 262144

-- what the four lanes of v hold together
abbrev pub joined : List ℕ → ℕ → ℕ
joined l v = get_or l (4 * v) 0 + get_or l (4 * v + 1) 0 + get_or l (4 * v + 2) 0 + get_or l (4 * v + 3) 0

-- ---- the cutoff

-- how many are at least v: the counts of v and of the values above
unfoldable pub at_least : List ℕ → ℕ → ℕ
at_least l v = total (λ i. i) (drop v l)

-- the greatest value that at least m are at or above, and how many at that value are let in
pub record CutAt (l : List ℕ) (m : ℕ) (r : Cut) : Type 0 where
  pub small : r.value < length l
  pub low : at_least l (r.value + 1) < m
  pub high : m ≤ at_least l r.value
  pub ties : r.ties ≡ m - at_least l (r.value + 1)

-- ---- the candidates

-- p is let in
abbrev pub admitted : (ℕ → ℕ) → Cut → ℕ → Bool
admitted d c p = ltb c.value (d p) || (eqb c.value (d p) && ltb (hits d p c.value) c.ties)

-- what becomes of the candidate that leads at position o, of guide x: as it is, or o in its place
abbrev pub next : Leader → Bool → ℕ → ℕ → Leader
next b ok o x = cond ok (cond (leb b.top x) (record { place = o; top = x + 1 }) b) b

-- one more than the guide of the candidate that leads, 0 before the first
abbrev pub top_of : (ℕ → ℕ) → List ℕ → ℕ
top_of g [] = 0
top_of g (p ∷ l) = g (best g p l) + 1

-- the candidate of a list that leads
abbrev pub kept : (ℕ → ℕ) → List ℕ → Leader
kept g l = record { place = brightest g l; top = top_of g l }

-- the walk has come to position p: what is kept of the candidates before p, and how many before p stand at the cutoff
pub record Walked (frame : List ℕ) (work : List ℤ) (c : Cut) (p : ℕ) (b : Walk) : Type 0 where
  pub leads : b.leader ≡ kept (λ o. guide (pixel_at frame o)) (keep (admitted (value work) c) (upto p))
  pub level : b.seen ≡ hits (value work) p c.value
  pub inside : b.leader.place < max 1 p

-- and can go on over the n positions from `first` on
abbrev pub Walkable : List ℕ → List ℤ → Cut → ℕ → ℕ → Walk → Type 0
Walkable frame work c first n b =
    (first + n ≤ 262144) × (3 * (first + n) ≤ length frame) × (first + n ≤ length work) × Levels (first + n) work × Walked frame work c first b

-- no level of a row is above the row's entry
abbrev pub Topped : (ℕ → ℕ) → ℕ → ℕ → List ℕ → Type 0
Topped d w h tops = (y x : ℕ) → y < h → x < w → d (y * w + x) ≤ get_or tops y 0

-- the position that is chosen
pub record Chosen (frame : List ℕ) (work : List ℤ) (n : ℕ) (c : Cut) (r : ℕ) : Type 0 where
  pub inside : r < n
  pub best : r ≡ brightest (λ p. guide (pixel_at frame p)) (keep (admitted (value work) c) (upto n))

-- ---- the whole

-- the level of the pixel at position p
abbrev pub level_at : Shape → ℕ → List ℕ → List ℕ → ℕ → ℕ
level_at z s mask frame p = level_by (get_or mask p 0) (at z (dark z s (masked z mask frame)) p)

-- the levels of the pixels, in row order at the work area's start
pub record DarkPlane (z : Size) (k : Settings) (mask frame : List ℕ) (v : List ℤ) : Type 0 where
  pub is : (p : ℕ) → p < z.w * z.h → get_or v p (pos 0) ≡ pos (level_at (described z) k.s mask frame p)
  pub small : (p : ℕ) → level_at (described z) k.s mask frame p ≤ 256

-- the levels D of the first n rows are stored, counted and bounded; past the plane m is l
pub record DarkTo (z : Shape) (D : ℕ → ℕ) (l m : List ℤ) (apart tops : List ℕ) (n : ℕ) : Type 0 where
  pub plane : (p : ℕ) → p < n * z.w → get_or m p (pos 0) ≡ pos (D p)
  pub rest : SameFrom l m (z.w * z.h)
  pub counts : Starts (hits (lane D) (n * z.w)) 1028 apart
  pub bounds : Topped D z.w n tops

-- all rows: the plane, the counts and the bounds
pub record Darkened (z : Size) (k : Settings) (mask frame : List ℕ) (v : List ℤ) (apart tops : List ℕ) : Type 0 where
  pub plane : DarkPlane z k mask frame v
  pub counts : Starts (hits (lane (value v)) (z.w * z.h)) 1028 apart
  pub bounds : Topped (value v) z.w z.h tops

-- the pixel at r gives the light
pub record Picked (z : Size) (k : Settings) (mask frame : List ℕ) (r : ℕ) : Type 0 where
  pub inside : r < z.w * z.h
  pub gives : lifted (pixel_at frame r) ≡ light (described z) k (masked (described z) mask frame)

-- the light and the comparisons, and the work area wiped
pub record Finds (z : Size) (k : Settings) (mask frame : List ℕ) (work : List ℤ) (r : Finding) (work' : List ℤ) : Type 0 where
  pub found : r ≡ finding z k mask frame
  pub after : work' ≡ wiped (described z) work
