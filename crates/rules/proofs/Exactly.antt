-- "Given exactly when", for any list of numbered tests, so for each operation's: a number is given exactly when its test holds and none before it
-- does (`given`, `gives`), and a call is accepted exactly when no test holds (`accepts`, `accepted`). Assumes nothing.
use mathlib.Core.Path.{◌≡◌, refl, sym}
use mathlib.Core.Bool.{Bool, true, false, cond, true≢false}
use mathlib.Core.List.{List, [], ◌∷◌, ◌++◌}
use lib.ListN.{length}
use Prim.Native.Nat.{ℕ, zero, suc}
use borrow.Author.Tests.{lt-ltb}
use lib.Dec.{ltb}
use native.Mathlib.Omega.{arith}
use Rattle.rules.specs.declared.Size.{Size}
use Rattle.rules.specs.declared.Settings.{Settings}
use Rattle.rules.specs.declared.Rgb.{Rgb}
use Rattle.rules.specs.declared.Rect.{Rect}
use Rattle.rules.specs.Setup.{Setup}
use Rattle.rules.specs.Refusals.{Tests, first, tests_light, tests_clear, tests_replace, tests_haze, tests_band, refuse_light, refuse_clear, refuse_replace, refuse_haze, refuse_band}
use Rattle.rules.specs.Promise.{Lent, no_clear, no_replace}

-- no test of the list holds
abbrev pub None : Tests → Type 0
None [] = Unit {0}
None (c ∷ l) = (c.1 ≡ false) × None l

-- each number is above 0
abbrev pub numbered : Tests → Bool
numbered [] = true
numbered (c ∷ l) = cond (ltb 0 c.0) (numbered l) false

-- the first test that holds is one with number n
pub data Gives (n : ℕ) : Tests → Type 0 where
  here : {c : ℕ × Bool} {l : Tests} → c.0 ≡ n → c.1 ≡ true → Gives n (c ∷ l)
  later : {c : ℕ × Bool} {l : Tests} → c.1 ≡ false → Gives n l → Gives n (c ∷ l)

pub given : (n : ℕ) (l : Tests) → first l ≡ suc n → Gives (suc n) l
given n [] e = absurd (let z : ◌≡◌ {A = ℕ} 0 1 = omega arith in omega arith)
given n (c ∷ l) e = go c.1 refl e (given n l)
  where
    go : (b : Bool) → c.1 ≡ b → cond b c.0 (first l) ≡ suc n → (first l ≡ suc n → Gives (suc n) l) → Gives (suc n) (c ∷ l)
    go true t f ih = here f t
    go false t f ih = later t (ih f)

pub gives : (n : ℕ) (l : Tests) → Gives n l → first l ≡ n
gives n [] x' = elim x' [ ]
gives n (c ∷ l) (here e t) = rw t e
gives n (c ∷ l) (later t g) = rw t (gives n l g)

pub accepts : (l : Tests) → None l → first l ≡ 0
accepts [] h = refl
accepts (c ∷ l) h = rw h.0 (accepts l h.1)

pub accepted : (l : Tests) → numbered l ≡ true → first l ≡ 0 → None l
accepted [] p e = tt
accepted (c ∷ l) p e = go c.0 c.1 refl p e (accepted l)
  where
    go : (n : ℕ) (b : Bool) → c.1 ≡ b → cond (ltb 0 n) (numbered l) false ≡ true → cond b n (first l) ≡ 0 → (numbered l ≡ true → first l ≡ 0 → None l) → None (c ∷ l)
    go zero b t q f rest = absurd (true≢false (sym q))
    go (suc n) true t q f rest = absurd (let z : suc n ≡ 0 = f in omega arith)
    go (suc n) false t q f rest = (t, rest (rw (lt-ltb 0 (suc n) (omega arith)) at q) f)

-- ---- a second list after a first one: its number counts where the first gives none

pub joined_some : (l m : Tests) (n : ℕ) → n ≡ first l → (n ≡ 0 → ⊥) → n ≡ first (l ++ m)
joined_some [] m n e h = absurd (h e)
joined_some (c ∷ l) m n e h = go c.1 e (λ f. joined_some l m n f h)
  where
    go : (b : Bool) → n ≡ cond b c.0 (first l) → (n ≡ first l → n ≡ first (l ++ m)) → n ≡ cond b c.0 (first (l ++ m))
    go true f ih = f
    go false f ih = ih f

pub joined_none : (l m : Tests) → None l → first (l ++ m) ≡ first m
joined_none [] m h = refl
joined_none (c ∷ l) m h = rw h.0 (joined_none l m h.1)

-- ---- each operation: its number is the first of its list, whose numbers are above 0

pub record Exact (n : ℕ) (l : Tests) : Type 0 where
  pub refused : (m : ℕ) → n ≡ suc m → Gives (suc m) l
  pub refuses : (m : ℕ) → Gives m l → n ≡ m
  pub free : n ≡ 0 → None l
  pub frees : None l → n ≡ 0

pub exact : (l : Tests) → numbered l ≡ true → Exact (first l) l
exact l p = record { refused = λ m e. given m l e; refuses = λ m g. gives m l g; free = accepted l p; frees = accepts l }

-- mask, frame and work are lengths, and `none` says whether no pixel is seen
pub light_exact : (z : Size) (k : Settings) (mask : ℕ) (none : Bool) (frame work : ℕ) → Exact (refuse_light z k mask none frame work) (tests_light z k mask none frame work)
unfolding refuse_light
light_exact z k mask none frame work = exact _ refl

pub clear_exact :
    (p : Setup) (l : Lent)
    → Exact
    (no_clear p l)
    (tests_clear p.size p.settings p.light (length p.mask) (length l.frame) (length l.map) (length l.picture) (length l.work))
unfolding refuse_clear
clear_exact p l = exact _ refl

pub replace_exact :
    (p : Setup) (c : Rect) (new : List ℕ) (l : Lent)
    → Exact
    (no_replace p c new l)
    (tests_replace p.size p.settings p.light c (length new) (length p.mask) (length l.frame) (length l.map) (length l.picture) (length l.work))
unfolding refuse_replace
replace_exact p c new l = exact _ refl

pub haze_exact : (z : Size) (a : Rgb) (clean : ℕ) (map : List ℕ) (hazed : ℕ) → Exact (refuse_haze z a clean map hazed) (tests_haze z a clean map hazed)
unfolding refuse_haze
haze_exact z a clean map hazed = exact _ refl

pub band_exact : (z : Size) (map : List ℕ) (start end : ℕ) → Exact (refuse_band z map start end) (tests_band z map start end)
unfolding refuse_band
band_exact z map start end = exact _ refl
