-- Rows under a mask, as `Cases` has those where all is seen: what the rules give, and what is wanted. The wanted values are those of the independent
-- second program. All are of the frame `field` of 4 by 3, under the light (200, 180, 190) where a light is given. Assumes nothing.
use Rattle.std.specs.Prelude.{ℕ, List, [], ◌∷◌, ◌++◌, map, take, replicate, ℤ, pos, neg_ℤ}
use Rattle.rules.specs.declared.Size.{Size}
use Rattle.rules.specs.declared.Settings.{Settings}
use Rattle.rules.specs.declared.Rgb.{Rgb}
use Rattle.rules.specs.declared.Rect.{Rect}
use Rattle.rules.specs.Window.{from}
use Rattle.rules.specs.Light.{m, light}
use Rattle.rules.specs.Transmission.{fit}
use Rattle.rules.specs.Setup.{handed}
use Rattle.rules.specs.Buffers.{State, masked, clear, replace}
use Rattle.rules.specs.Promise.{no_light, no_clear, no_replace, lent_of}
use Rattle.rules.specs.Cases.{Row, shape, size, set, radii, rgb, nats, colour, byte, field, rect}

-- ---- masks

-- three pixels are hidden; any byte but 0 is that of a seen one
abbrev veil : List ℕ
veil = 1 ∷ 0 ∷ 2 ∷ 255 ∷ 0 ∷ 128 ∷ 1 ∷ 1 ∷ 1 ∷ 1 ∷ 0 ∷ 1 ∷ []

-- one pixel is seen, at column 2 of row 1
abbrev single : List ℕ
single = replicate 6 0 ++ (1 ∷ replicate 5 0)

abbrev nothing : List ℕ
nothing = replicate 12 0

-- ---- what the rows are written with

-- the light that is given
abbrev given : Rgb
given = rgb 200 180 190

-- the light that is found, at radii 1 and 1 and some share
abbrev lit : ℕ → List ℕ → List ℤ
lit share mask = nats (colour (light (shape 4 3) (set 1 1 9500 59 1000 share) (masked (shape 4 3) mask field)))

-- map and picture
abbrev under : Settings → List ℕ → State
under k mask = clear (handed (size 4 3) k given mask) field

-- slope and offset at a pixel, at radii 1 and 1
abbrev line : ℕ → ℕ → List ℤ
line y x =
    let l = (fit (shape 4 3) (radii 1 1) given (masked (shape 4 3) veil field) y x).value in
    l.a ∷ l.b ∷ []

-- Replace of the first two columns of the first two rows: the second and the third of the new pixels are hidden by `veil`
abbrev new : List ℕ
new = 240 ∷ 10 ∷ 20 ∷ 30 ∷ 250 ∷ 60 ∷ 70 ∷ 80 ∷ 235 ∷ 200 ∷ 190 ∷ 180 ∷ []

abbrev put : Settings → List ℕ → State → State
put k mask s = replace (handed (size 4 3) k given mask) (rect 0 0 2 2) new s

-- a map that holds 1 and a picture that holds 7
abbrev stale : State
stale = record { frame = field; map = replicate 12 1; picture = replicate 36 7 }

-- the picture of `field` under `veil`, at radii 1 and 1, and at radii 0 and 0
abbrev veil_picture : List ℕ
veil_picture =
    (0 ∷ 40 ∷ 78 ∷ 122 ∷ 159 ∷ 196 ∷ 236 ∷ 1 ∷ 40 ∷ 79 ∷ 120 ∷ 160 ∷ [])
    ++ (199 ∷ 236 ∷ 17 ∷ 42 ∷ 84 ∷ 123 ∷ 162 ∷ 204 ∷ 244 ∷ 6 ∷ 47 ∷ 86 ∷ [])
    ++ (123 ∷ 167 ∷ 207 ∷ 246 ∷ 9 ∷ 48 ∷ 97 ∷ 134 ∷ 171 ∷ 209 ∷ 251 ∷ 11 ∷ [])

abbrev veil_picture0 : List ℕ
veil_picture0 =
    (1 ∷ 41 ∷ 79 ∷ 122 ∷ 159 ∷ 196 ∷ 236 ∷ 1 ∷ 40 ∷ 8 ∷ 85 ∷ 142 ∷ [])
    ++ (199 ∷ 236 ∷ 17 ∷ 4 ∷ 60 ∷ 107 ∷ 38 ∷ 255 ∷ 255 ∷ 1 ∷ 44 ∷ 84 ∷ [])
    ++ (17 ∷ 148 ∷ 230 ∷ 248 ∷ 1 ∷ 42 ∷ 97 ∷ 134 ∷ 171 ∷ 209 ∷ 255 ∷ 2 ∷ [])

-- the frame with the new pixels, and pictures after it: of `veil` at radii 0 and 0, at radii 1 and 1, and at 1 and 0 on `stale`; of `nothing` on it
abbrev new_frame : List ℕ
new_frame =
    (240 ∷ 10 ∷ 20 ∷ 30 ∷ 250 ∷ 60 ∷ 233 ∷ 14 ∷ 51 ∷ 88 ∷ 125 ∷ 162 ∷ [])
    ++ (70 ∷ 80 ∷ 235 ∷ 200 ∷ 190 ∷ 180 ∷ 165 ∷ 202 ∷ 239 ∷ 20 ∷ 57 ∷ 94 ∷ [])
    ++ (131 ∷ 168 ∷ 205 ∷ 242 ∷ 23 ∷ 60 ∷ 97 ∷ 134 ∷ 171 ∷ 208 ∷ 245 ∷ 26 ∷ [])

abbrev new_picture0 : List ℕ
new_picture0 =
    (242 ∷ 1 ∷ 11 ∷ 30 ∷ 250 ∷ 60 ∷ 236 ∷ 1 ∷ 40 ∷ 8 ∷ 85 ∷ 142 ∷ [])
    ++ (70 ∷ 80 ∷ 235 ∷ 200 ∷ 255 ∷ 90 ∷ 38 ∷ 255 ∷ 255 ∷ 1 ∷ 44 ∷ 84 ∷ [])
    ++ (17 ∷ 148 ∷ 230 ∷ 248 ∷ 1 ∷ 42 ∷ 97 ∷ 134 ∷ 171 ∷ 209 ∷ 255 ∷ 2 ∷ [])

abbrev new_picture : List ℕ
new_picture =
    (243 ∷ 0 ∷ 8 ∷ 30 ∷ 250 ∷ 60 ∷ 236 ∷ 0 ∷ 39 ∷ 79 ∷ 120 ∷ 160 ∷ [])
    ++ (70 ∷ 80 ∷ 235 ∷ 200 ∷ 191 ∷ 179 ∷ 162 ∷ 204 ∷ 243 ∷ 5 ∷ 47 ∷ 86 ∷ [])
    ++ (124 ∷ 167 ∷ 206 ∷ 247 ∷ 4 ∷ 45 ∷ 97 ∷ 134 ∷ 171 ∷ 209 ∷ 251 ∷ 12 ∷ [])

abbrev stale_picture : List ℕ
stale_picture =
    (242 ∷ 1 ∷ 11 ∷ 30 ∷ 250 ∷ 60 ∷ 236 ∷ 1 ∷ 40 ∷ 7 ∷ 7 ∷ 7 ∷ [])
    ++ (70 ∷ 80 ∷ 235 ∷ 200 ∷ 191 ∷ 179 ∷ 162 ∷ 204 ∷ 243 ∷ 7 ∷ 7 ∷ 7 ∷ [])
    ++ (121 ∷ 166 ∷ 207 ∷ 248 ∷ 1 ∷ 42 ∷ 97 ∷ 134 ∷ 171 ∷ 7 ∷ 7 ∷ 7 ∷ [])

abbrev nothing_picture : List ℕ
nothing_picture =
    (240 ∷ 10 ∷ 20 ∷ 30 ∷ 250 ∷ 60 ∷ 233 ∷ 14 ∷ 51 ∷ 7 ∷ 7 ∷ 7 ∷ [])
    ++ (70 ∷ 80 ∷ 235 ∷ 200 ∷ 190 ∷ 180 ∷ 165 ∷ 202 ∷ 239 ∷ 7 ∷ 7 ∷ 7 ∷ [])
    ++ (131 ∷ 168 ∷ 205 ∷ 242 ∷ 23 ∷ 60 ∷ 97 ∷ 134 ∷ 171 ∷ 7 ∷ 7 ∷ 7 ∷ [])

-- ---- refusal numbers, of buffers with their contents

abbrev light_no : Size → Settings → List ℕ → ℕ → ℕ → ℕ
light_no z k mask frame work = no_light z k mask (replicate frame 0) (replicate work (pos 0))

abbrev clear_no : Rgb → List ℕ → ℕ → ℕ
clear_no a mask frame = no_clear (handed (size 4 3) (radii 1 1) a mask) (lent_of (replicate frame 0) (replicate 12 0) (replicate 36 0) (replicate 160 (pos 0)))

abbrev replace_no : Rgb → List ℕ → Rect → ℕ
replace_no a mask c = no_replace (handed (size 4 3) (radii 1 1) a mask) c new (lent_of field (replicate 12 0) (replicate 36 0) (replicate 160 (pos 0)))

-- masks that lack a byte, and have one too many
abbrev short : List ℕ
short = take 11 veil

abbrev long : List ℕ
long = veil ++ (1 ∷ [])

-- ---- the table, its numbers going on from those of `Cases`

unfoldable pub mask_table : List Row
mask_table =
    -- the light: hidden pixels are in no window, and m is that of the seen ones, 1, 2, 4 and 9
    record {
      no = 43;
      got = lit 1 veil ++ lit 300 veil ++ lit 500 veil ++ lit 1000 veil;
      want = nats (131 ∷ 168 ∷ 205 ∷ 131 ∷ 168 ∷ 205 ∷ 131 ∷ 168 ∷ 205 ∷ 165 ∷ 202 ∷ 239 ∷ []);
    }
    ∷ record { no = 43; got = lit 1 single ++ lit 1000 single; want = nats (165 ∷ 202 ∷ 239 ∷ 165 ∷ 202 ∷ 239 ∷ []) }
    -- the brightest pixel is hidden
    ∷ record { no = 43; got = lit 1000 (replicate 6 1 ++ (0 ∷ replicate 5 1)); want = nats (131 ∷ 168 ∷ 205 ∷ []) }
    -- map and picture under the mask
    ∷ record {
      no = 44;
      got = nats (under (radii 1 1) veil).map;
      want = nats (9416 ∷ 10000 ∷ 9248 ∷ 9243 ∷ 10000 ∷ 9267 ∷ 9144 ∷ 9261 ∷ 8941 ∷ 9156 ∷ 10000 ∷ 9185 ∷ []);
    }
    ∷ record { no = 44; got = nats (under (radii 1 1) veil).picture; want = nats veil_picture }
    ∷ record {
      no = 44;
      got = nats (under (radii 0 0) veil).map;
      want = nats (9478 ∷ 10000 ∷ 9262 ∷ 5820 ∷ 10000 ∷ 7435 ∷ 2163 ∷ 9050 ∷ 3778 ∷ 8787 ∷ 10000 ∷ 8701 ∷ []);
    }
    ∷ record { no = 44; got = nats (under (radii 0 0) veil).picture; want = nats veil_picture0 }
    -- one seen pixel: its windows have it alone; then nothing seen: 10,000 everywhere, and the frame itself
    ∷ record {
      no = 45;
      got = nats (under (radii 1 1) single).map;
      want = nats (10000 ∷ 10000 ∷ 10000 ∷ 10000 ∷ 10000 ∷ 10000 ∷ 2163 ∷ 10000 ∷ 10000 ∷ 10000 ∷ 10000 ∷ 10000 ∷ []);
    }
    ∷ record { no = 45; got = nats (under (radii 1 1) single).picture; want = nats (from 0 18 byte ++ (38 ∷ 255 ∷ 255 ∷ []) ++ from 21 15 byte) }
    ∷ record { no = 45; got = nats (under (radii 1 1) nothing).map; want = nats (replicate 12 10000) }
    ∷ record { no = 45; got = nats (under (radii 1 1) nothing).picture; want = nats field }
    -- slope and offset over the seen pixels: two at a corner, seven of nine in the middle
    ∷ record {
      no = 46;
      got = line 0 0 ++ line 0 2 ++ line 1 1;
      want = pos 0 ∷ pos 9705472 ∷ neg_ℤ (pos 149) ∷ pos 9579870 ∷ neg_ℤ (pos 859) ∷ pos 9703691 ∷ [];
    }
    ∷ record {
      no = 46;
      got = line 1 2 ++ line 2 0 ++ line 2 3;
      want = neg_ℤ (pos 223) ∷ pos 9495890 ∷ neg_ℤ (pos 2260) ∷ pos 10063922 ∷ neg_ℤ (pos 131) ∷ pos 9466770 ∷ [];
    }
    -- m of the number of seen pixels, at least 1
    ∷ record {
      no = 47;
      got = nats
          (m 5 (set 0 0 9500 59 1000 1000)
          ∷ m 5 (radii 0 0)
          ∷ m 5 (set 0 0 9500 59 1000 300)
          ∷ m 5 (set 0 0 9500 59 1000 400)
          ∷ m 1 (radii 0 0)
          ∷ m 0 (radii 0 0)
          ∷ []);
      want = nats (5 ∷ 1 ∷ 1 ∷ 2 ∷ 1 ∷ 1 ∷ []);
    }
    -- Replace: new pixels enter under hidden places too; there the entry is 10,000 and the colour the new one
    ∷ record { no = 48; got = nats (put (radii 0 0) veil (under (radii 0 0) veil)).frame; want = nats new_frame }
    ∷ record {
      no = 48;
      got = nats (put (radii 0 0) veil (under (radii 0 0) veil)).map;
      want = nats (9473 ∷ 10000 ∷ 9262 ∷ 5820 ∷ 10000 ∷ 1001 ∷ 2163 ∷ 9050 ∷ 3778 ∷ 8787 ∷ 10000 ∷ 8701 ∷ []);
    }
    ∷ record { no = 48; got = nats (put (radii 0 0) veil (under (radii 0 0) veil)).picture; want = nats new_picture0 }
    -- reach 3: all is new
    ∷ record {
      no = 48;
      got = nats (put (radii 1 1) veil stale).map;
      want = nats (9316 ∷ 10000 ∷ 9217 ∷ 9240 ∷ 10000 ∷ 9287 ∷ 9245 ∷ 9218 ∷ 9120 ∷ 8936 ∷ 10000 ∷ 9203 ∷ []);
    }
    ∷ record { no = 48; got = nats (put (radii 1 1) veil stale).picture; want = nats new_picture }
    -- reach 1: outside it map and picture stay, under hidden places too
    ∷ record {
      no = 49;
      got = nats (put (radii 1 0) veil stale).map;
      want = nats (9473 ∷ 10000 ∷ 9262 ∷ 1 ∷ 10000 ∷ 9473 ∷ 9262 ∷ 1 ∷ 8787 ∷ 8787 ∷ 10000 ∷ 1 ∷ []);
    }
    ∷ record { no = 49; got = nats (put (radii 1 0) veil stale).picture; want = nats stale_picture }
    ∷ record { no = 49; got = nats (put (radii 0 0) veil stale).map; want = nats (9473 ∷ 10000 ∷ 1 ∷ 1 ∷ 10000 ∷ 1001 ∷ 1 ∷ 1 ∷ 1 ∷ 1 ∷ 1 ∷ 1 ∷ []) }
    -- and where nothing is seen
    ∷ record {
      no = 49;
      got = nats (put (radii 1 0) nothing stale).map;
      want = nats (10000 ∷ 10000 ∷ 10000 ∷ 1 ∷ 10000 ∷ 10000 ∷ 10000 ∷ 1 ∷ 10000 ∷ 10000 ∷ 10000 ∷ 1 ∷ []);
    }
    ∷ record { no = 49; got = nats (put (radii 1 0) nothing stale).picture; want = nats nothing_picture }
    -- Light: 14 alone, then with 4, 3, 2 and 1, which come before it
    ∷ record {
      no = 50;
      got = nats
          (light_no (size 4 3) (radii 1 1) nothing 36 160
          ∷ light_no (size 4 3) (radii 1 1) nothing 36 159
          ∷ light_no (size 4 3) (radii 1 1) nothing 35 160
          ∷ light_no (size 4 3) (radii 31 1) nothing 36 160
          ∷ light_no (size 0 3) (radii 1 1) nothing 36 160
          ∷ []);
      want = nats (14 ∷ 4 ∷ 3 ∷ 2 ∷ 1 ∷ []);
    }
    -- masks of another length, and 4 before 14; then masks that show some pixel
    ∷ record {
      no = 50;
      got = nats
          (map (λ (l : List ℕ). light_no (size 4 3) (radii 1 1) l 36 160)
          (short ∷ long ∷ replicate 11 0 ∷ replicate 13 0 ∷ [] ∷ veil ∷ (replicate 11 0 ++ (1 ∷ [])) ∷ []));
      want = nats (4 ∷ 4 ∷ 4 ∷ 4 ∷ 4 ∷ 0 ∷ 0 ∷ []);
    }
    -- Clear: nothing seen is taken; masks of another length, and 4 before 5, 3 before 4
    ∷ record {
      no = 51;
      got = nats
          (clear_no given nothing 36
          ∷ clear_no given short 36
          ∷ clear_no given long 36
          ∷ clear_no given [] 36
          ∷ clear_no (rgb 0 180 190) short 36
          ∷ clear_no given short 35
          ∷ []);
      want = nats (0 ∷ 4 ∷ 4 ∷ 4 ∷ 4 ∷ 3 ∷ []);
    }
    -- Replace: the same, and 4 before 6
    ∷ record {
      no = 52;
      got = nats
          (replace_no given nothing (rect 0 0 2 2)
          ∷ replace_no given short (rect 0 0 2 2)
          ∷ replace_no given long (rect 0 0 2 2)
          ∷ replace_no given [] (rect 0 0 2 2)
          ∷ replace_no (rgb 0 180 190) short (rect 0 0 2 2)
          ∷ replace_no given short (rect 3 0 2 2)
          ∷ []);
      want = nats (0 ∷ 4 ∷ 4 ∷ 4 ∷ 4 ∷ 4 ∷ []);
    }
    ∷ []
