-- The paper's proved cases P1 to P11, and rows of our own where these do not tell two rules apart, as a table: what the rules give, and what is wanted.
-- The wanted values of our own rows are those of the independent second program. In these rows all is seen; those under a mask are in CasesMask.
-- Assumes nothing.
use Rattle.std.specs.Prelude.{ℕ, ◌+◌, ◌*◌, ◌%◌, List, [], ◌∷◌, ◌++◌, map, false, length, replicate, ℤ, pos, neg_ℤ}
use Rattle.std.specs.Float.{binary64}
use Rattle.std.specs.Float.Ieee.{to_bits}
use Rattle.rules.specs.Shape.{Shape}
use Rattle.rules.specs.declared.Size.{Size}
use Rattle.rules.specs.declared.Settings.{Settings}
use Rattle.rules.specs.declared.Rgb.{Rgb}
use Rattle.rules.specs.declared.Rect.{Rect}
use Rattle.rules.specs.declared.Figure.{Figure}
use Rattle.rules.specs.Window.{plain, from, window}
use Rattle.rules.specs.Light.{at, m, light}
use Rattle.rules.specs.Transmission.{ratio, fit, map_entry}
use Rattle.rules.specs.Picture.{recover, haze, figure}
use Rattle.rules.specs.Setup.{handed}
use Rattle.rules.specs.Buffers.{State, masked, clear, replace, hazed}
use Rattle.rules.specs.Refusals.{refuse_light, refuse_clear, refuse_replace, refuse_haze, refuse_band}

-- up to 11, `no` is the paper's case P`no`; from 12 on the rows are our own
pub record Row : Type 0 where
  pub no : ℕ
  pub got : List ℤ
  pub want : List ℤ

-- ---- what the rows are written with

abbrev pub shape : ℕ → ℕ → Shape
shape w h = record { w = w; h = h }

abbrev pub size : ℕ → ℕ → Size
size w h = record { w = w; h = h }

abbrev pub set : ℕ → ℕ → ℕ → ℕ → ℕ → ℕ → Settings
set s r omega e t0 share = record { s = s; r = r; omega = omega; e = e; t0 = t0; share = share }

-- the defaults, at the radii s and r
abbrev pub radii : ℕ → ℕ → Settings
radii s r = set s r 9500 59 1000 1

abbrev pub rgb : ℕ → ℕ → ℕ → Rgb
rgb r g b = record { r = r; g = g; b = b }

abbrev pub nats : List ℕ → List ℤ
nats l = map pos l

abbrev pub colour : Rgb → List ℕ
colour i = i.r ∷ i.g ∷ i.b ∷ []

abbrev bits : Figure → List ℤ
bits f = nats (to_bits binary64 f.mean ∷ to_bits binary64 f.least ∷ [])

-- all is seen
abbrev ones : Shape → List ℕ
ones z = replicate (z.w * z.h) 1

abbrev found : Shape → Settings → List ℕ → Rgb
found z k frame = light z k (masked z (ones z) frame)

abbrev lit : Shape → Settings → List ℕ → List ℤ
lit z k frame = nats (colour (found z k frame))

-- map and picture under a light
abbrev under : Shape → Settings → Rgb → List ℕ → List ℤ
under z k a frame = let s = clear (handed (size z.w z.h) k a (ones z)) frame in nats (s.map ++ s.picture)

-- the light that is found, then map and picture under it
abbrev all : Shape → Settings → List ℕ → List ℤ
all z k frame = lit z k frame ++ under z k (found z k frame) frame

-- slope and offset at column x of the first row, under the light that is found
abbrev line : Shape → Settings → List ℕ → ℕ → List ℤ
line z k frame x =
    let l = (fit z k (found z k frame) (masked z (ones z) frame) 0 x).value in
    l.a ∷ l.b ∷ []

abbrev two : List ℕ
two = 200 ∷ 200 ∷ 200 ∷ 100 ∷ 150 ∷ 180 ∷ []

-- how many pixels a window of radius 1 has in a frame of 3 by 3
abbrev many : ℕ → ℕ → ℕ
many y x = length {A = ℕ} (window (shape 3 3) 1 (plain (λ v u. 0)) y x)

-- a frame of 4 by 3 in which no two neighbours are alike, and its map under the light (200, 180, 190) at radii 1 and 1
abbrev pub byte : ℕ → ℕ
byte k = (k * 37 + 11) % 256

abbrev pub field : List ℕ
field = from 0 36 byte

abbrev field_map : List ℕ
field_map = 9443 ∷ 9340 ∷ 9305 ∷ 9260 ∷ 9338 ∷ 9352 ∷ 9225 ∷ 9262 ∷ 9272 ∷ 9305 ∷ 9227 ∷ 9181 ∷ []

-- a frame without very dark pixels: its first n bytes
abbrev broad : ℕ → List ℕ
broad n = from 0 n (λ k. 60 + (k * 37 + 11) % 190)

-- map entries at some positions, under a light
abbrev map_at : Shape → Settings → Rgb → List ℕ → List ℕ → List ℤ
map_at z k a frame l = nats (map (λ p. at z (map_entry z k a (masked z (ones z) frame)) p) l)

-- a map of 2 by 3 with its least entry in the first row
abbrev low : List ℕ
low = 519 ∷ 10 ∷ 5230 ∷ 7000 ∷ 9999 ∷ 20 ∷ []

-- ---- Replace, under the light (200, 180, 190), where a map holds 1 and a picture 7

abbrev pub rect : ℕ → ℕ → ℕ → ℕ → Rect
rect x y w h = record { x = x; y = y; w = w; h = h }

abbrev fresh : ℕ → ℕ
fresh k = k * 11 + 40

abbrev put : Size → Settings → Rect → List ℕ → State
put z k c frame =
    let n : ℕ = z.w * z.h in
    let old : State = record { frame = frame; map = replicate n 1; picture = replicate (3 * n) 7 } in
    replace (handed z k (rgb 200 180 190) (replicate n 1)) c (from 0 (3 * (c.w * c.h)) fresh) old

abbrev block : State
block = put (size 5 4) (radii 1 0) (rect 2 0 3 2) (from 0 60 byte)

abbrev block_row1 : List ℕ
block_row1 = 7 ∷ 7 ∷ 7 ∷ 118 ∷ 158 ∷ 196 ∷ 2 ∷ 21 ∷ 32 ∷ 43 ∷ 61 ∷ 73 ∷ 56 ∷ 84 ∷ 95 ∷ []

abbrev block_row2 : List ℕ
block_row2 = 7 ∷ 7 ∷ 7 ∷ 163 ∷ 203 ∷ 242 ∷ 130 ∷ 146 ∷ 157 ∷ 168 ∷ 183 ∷ 195 ∷ 206 ∷ 222 ∷ 233 ∷ []

abbrev block_row3 : List ℕ
block_row3 = 7 ∷ 7 ∷ 7 ∷ 209 ∷ 255 ∷ 2 ∷ 43 ∷ 88 ∷ 129 ∷ 170 ∷ 216 ∷ 255 ∷ 2 ∷ 48 ∷ 89 ∷ []

abbrev strip : Size → Rect → List ℕ
strip z c = (put z (radii 1 1) c (broad 27)).map

-- ---- refusal numbers at the ends of the ranges

abbrev room : ℕ → ℕ → ℕ
room w h = 8 * ((w + 1) * (h + 1))

abbrev size_no : ℕ → ℕ → ℕ
size_no w h = refuse_light (size w h) (radii 0 0) (w * h) false (3 * (w * h)) (room w h)

abbrev settings_no : Settings → ℕ
settings_no k = refuse_light (size 1 1) k 1 false 3 32

-- Clear of 2 by 1 with other lengths and another light
abbrev clear_no : ℕ → ℕ → ℕ → ℕ → Rgb → ℕ
clear_no frame map picture work a = refuse_clear (size 2 1) (radii 0 0) a 2 frame map picture work

-- Replace in 5 by 4
abbrev replace_no : ℕ → ℕ → ℕ → ℕ → ℕ → ℕ
replace_no x y w h new = refuse_replace (size 5 4) (radii 0 0) (rgb 1 1 1) (rect x y w h) new 20 60 20 60 240

-- Haze of 2 by 1
abbrev haze_no : ℕ → List ℕ → ℕ → Rgb → ℕ
haze_no clean map hazed a = refuse_haze (size 2 1) a clean map hazed

-- Band figure of 1 by 3
abbrev band_no : List ℕ → ℕ → ℕ → ℕ
band_no map start end = refuse_band (size 1 3) map start end

-- ---- the table

unfoldable pub table : List Row
table =
    record { no = 1; got = all (shape 1 1) (radii 0 0) (200 ∷ 150 ∷ 100 ∷ []); want = nats (200 ∷ 150 ∷ 100 ∷ 500 ∷ 200 ∷ 150 ∷ 100 ∷ []) }
    ∷ record {
      no = 2;
      got = all (shape 2 1) (radii 0 0) two;
      want = nats (200 ∷ 200 ∷ 200 ∷ 500 ∷ 5250 ∷ 200 ∷ 200 ∷ 200 ∷ 10 ∷ 105 ∷ 162 ∷ []);
    }
    ∷ record {
      no = 3;
      got = line (shape 2 1) (radii 0 1) two 0 ++ line (shape 2 1) (radii 0 1) two 1;
      want = neg_ℤ (pos 28381) ∷ pos 17560215 ∷ neg_ℤ (pos 28381) ∷ pos 17560215 ∷ [];
    }
    ∷ record {
      no = 3;
      got = all (shape 2 1) (radii 0 1) two;
      want = nats (200 ∷ 200 ∷ 200 ∷ 519 ∷ 5230 ∷ 200 ∷ 200 ∷ 200 ∷ 9 ∷ 104 ∷ 162 ∷ []);
    }
    ∷ record { no = 4; got = all (shape 1 1) (radii 0 0) (0 ∷ 0 ∷ 0 ∷ []); want = nats (1 ∷ 1 ∷ 1 ∷ 10000 ∷ 0 ∷ 0 ∷ 0 ∷ []) }
    ∷ record {
      no = 5;
      got = nats (recover 100 255 1000 ∷ recover 100 90 1000 ∷ recover 100 89 1000 ∷ []);
      want = nats (255 ∷ 0 ∷ 0 ∷ []);
    }
    ∷ record { no = 6; got = nats (recover 100 101 3000 ∷ recover 100 99 3000 ∷ []); want = nats (103 ∷ 97 ∷ []) }
    ∷ record {
      no = 7;
      got = nats (m 999 (radii 0 0) ∷ m 1000 (radii 0 0) ∷ m 2000 (radii 0 0) ∷ []);
      want = nats (1 ∷ 1 ∷ 2 ∷ []);
    }
    ∷ record { no = 8; got = nats (haze 255 0 5000 ∷ []); want = nats (128 ∷ []) }
    ∷ record { no = 9; got = nats (ratio 250 200 ∷ []); want = nats (10000 ∷ []) }
    ∷ record { no = 10; got = nats (many 0 0 ∷ many 0 1 ∷ many 1 1 ∷ []); want = nats (4 ∷ 6 ∷ 9 ∷ []) }
    -- the doubles 5749/20000 and 519/10000
    ∷ record {
      no = 11;
      got = bits (figure (shape 2 1) (519 ∷ 5230 ∷ []) 0 1);
      want = nats (4598849858769456516 ∷ 4587640399296931352 ∷ []);
    }
    -- the brightest pixel is no candidate
    ∷ record {
      no = 12;
      got = lit (shape 2 1) (radii 0 0) (100 ∷ 100 ∷ 100 ∷ 255 ∷ 255 ∷ 0 ∷ []);
      want = nats (100 ∷ 100 ∷ 100 ∷ []);
    }
    -- equal dark values: the lower position is ranked before
    ∷ record {
      no = 13;
      got = lit (shape 2 2) (set 0 0 9500 59 1000 500) (50 ∷ 50 ∷ 50 ∷ 40 ∷ 250 ∷ 40 ∷ 40 ∷ 40 ∷ 240 ∷ 0 ∷ 255 ∷ 255 ∷ []);
      want = nats (40 ∷ 250 ∷ 40 ∷ []);
    }
    -- equally bright candidates: the lower position
    ∷ record {
      no = 14;
      got = lit (shape 2 1) (set 0 0 9500 59 1000 1000) (10 ∷ 20 ∷ 30 ∷ 30 ∷ 20 ∷ 10 ∷ []);
      want = nats (10 ∷ 20 ∷ 30 ∷ []);
    }
    -- dark values over windows
    ∷ record { no = 15; got = lit (shape 4 3) (set 1 1 9500 59 1000 300) field; want = nats (131 ∷ 168 ∷ 205 ∷ []) }
    -- a whole frame: rows and columns, edges, three different channels, a light that is not the frame's own
    ∷ record {
      no = 16;
      got = under (shape 4 3) (radii 1 1) (rgb 200 180 190) field;
      want = nats
          (field_map
          ++ (0
          ∷ 40
          ∷ 79
          ∷ 116
          ∷ 158
          ∷ 196
          ∷ 235
          ∷ 2
          ∷ 41
          ∷ 79
          ∷ 121
          ∷ 160
          ∷ 199
          ∷ 240
          ∷ 5
          ∷ 44
          ∷ 85
          ∷ 124
          ∷ 162
          ∷ 204
          ∷ 243
          ∷ 6
          ∷ 47
          ∷ 86
          ∷ 126
          ∷ 167
          ∷ 206
          ∷ 245
          ∷ 11
          ∷ 50
          ∷ 88
          ∷ 130
          ∷ 169
          ∷ 209
          ∷ 251
          ∷ 11
          ∷ []));
    }
    -- the offset uses the floored slope
    ∷ record {
      no = 17;
      got = line (shape 2 1) (radii 0 1) (159 ∷ 189 ∷ 203 ∷ 241 ∷ 189 ∷ 236 ∷ []) 0;
      want = neg_ℤ (pos 28284) ∷ pos 19378110 ∷ [];
    }
    -- refined values outside 0..10,000 are held at the nearer end
    ∷ record {
      no = 18;
      got = under (shape 3 1) (set 0 1 10000 1 1000 1) (rgb 221 191 212) (221 ∷ 191 ∷ 212 ∷ 111 ∷ 97 ∷ 3 ∷ 179 ∷ 20 ∷ 254 ∷ []);
      want = nats (942 ∷ 10000 ∷ 7345 ∷ 221 ∷ 191 ∷ 212 ∷ 111 ∷ 97 ∷ 3 ∷ 164 ∷ 0 ∷ 255 ∷ []);
    }
    ∷ record {
      no = 18;
      got = under (shape 3 1) (set 0 1 10000 1 1000 1) (rgb 199 93 227) (199 ∷ 93 ∷ 227 ∷ 142 ∷ 174 ∷ 4 ∷ 218 ∷ 92 ∷ 236 ∷ []);
      want = nats (354 ∷ 9795 ∷ 0 ∷ 199 ∷ 93 ∷ 227 ∷ 141 ∷ 176 ∷ 0 ∷ 255 ∷ 83 ∷ 255 ∷ []);
    }
    -- hazing is rounded to the nearest, and channel by channel
    ∷ record { no = 19; got = nats (haze 1 2 4999 ∷ haze 1 2 5000 ∷ []); want = nats (1 ∷ 2 ∷ []) }
    ∷ record {
      no = 19;
      got = nats (hazed (shape 2 2) (rgb 200 180 190) (from 0 12 byte) (9443 ∷ 9340 ∷ 9305 ∷ 9260 ∷ []));
      want = nats (22 ∷ 55 ∷ 91 ∷ 127 ∷ 160 ∷ 196 ∷ 231 ∷ 26 ∷ 61 ∷ 96 ∷ 129 ∷ 164 ∷ []);
    }
    -- a band that leaves rows out
    ∷ record { no = 20; got = bits (figure (shape 4 3) field_map 1 3); want = nats (4606525118434402684 ∷ 4606444729181054121 ∷ []) }
    -- three entries: 49/30000, divided once
    ∷ record { no = 20; got = bits (figure (shape 1 3) (1 ∷ 41 ∷ 7 ∷ []) 0 3); want = nats (4565175243395706686 ∷ 4547007122018943789 ∷ []) }
    -- refusals: sizes, then settings, at both ends of each range
    ∷ record {
      no = 21;
      got = nats (map (λ (z : Size). size_no z.w z.h) (size 1024 256 ∷ size 256 1024 ∷ size 512 512 ∷ size 1 1 ∷ []));
      want = nats (0 ∷ 0 ∷ 0 ∷ 0 ∷ []);
    }
    ∷ record {
      no = 21;
      got = nats (map (λ (z : Size). size_no z.w z.h) (size 1025 1 ∷ size 1 1025 ∷ size 513 512 ∷ size 481 545 ∷ size 0 1 ∷ size 1 0 ∷ []));
      want = nats (1 ∷ 1 ∷ 1 ∷ 1 ∷ 1 ∷ 1 ∷ []);
    }
    ∷ record {
      no = 22;
      got = nats (map settings_no (set 30 60 10000 585225 10000 1000 ∷ set 0 0 1 1 1 1 ∷ []));
      want = nats (0 ∷ 0 ∷ []);
    }
    ∷ record {
      no = 22;
      got = nats
          (map settings_no
          (set 31 0 1 1 1 1 ∷ set 0 61 1 1 1 1 ∷ set 0 0 10001 1 1 1 ∷ set 0 0 1 585226 1 1 ∷ set 0 0 1 1 10001 1 ∷ set 0 0 1 1 1 1001 ∷ []));
      want = nats (2 ∷ 2 ∷ 2 ∷ 2 ∷ 2 ∷ 2 ∷ []);
    }
    ∷ record {
      no = 22;
      got = nats (map settings_no (set 0 0 0 1 1 1 ∷ set 0 0 1 0 1 1 ∷ set 0 0 1 1 0 1 ∷ set 0 0 1 1 1 0 ∷ []));
      want = nats (2 ∷ 2 ∷ 2 ∷ 2 ∷ []);
    }
    -- lengths and light: one short, one long; a longer work area
    ∷ record {
      no = 23;
      got = nats
          (clear_no 6 2 6 48 (rgb 1 1 1)
          ∷ clear_no 6 2 6 49 (rgb 1 1 1)
          ∷ clear_no 5 3 6 48 (rgb 1 1 1)
          ∷ clear_no 7 2 6 48 (rgb 1 1 1)
          ∷ clear_no 6 1 6 48 (rgb 1 1 1)
          ∷ clear_no 6 3 6 48 (rgb 1 1 1)
          ∷ clear_no 6 2 5 48 (rgb 1 1 1)
          ∷ clear_no 6 2 7 48 (rgb 1 1 1)
          ∷ clear_no 6 2 6 47 (rgb 0 1 1)
          ∷ clear_no 6 2 6 48 (rgb 0 1 1)
          ∷ clear_no 6 2 6 48 (rgb 1 0 1)
          ∷ clear_no 6 2 6 48 (rgb 1 1 0)
          ∷ []);
      want = nats (0 ∷ 0 ∷ 3 ∷ 3 ∷ 4 ∷ 4 ∷ 4 ∷ 4 ∷ 4 ∷ 5 ∷ 5 ∷ 5 ∷ []);
    }
    -- rectangles: to the last column and row, one more, empty ones, far outside; then their pixels
    ∷ record {
      no = 24;
      got = nats
          (replace_no 2 1 3 3 27
          ∷ replace_no 2 1 4 3 36
          ∷ replace_no 2 1 3 4 36
          ∷ replace_no 0 0 0 1 0
          ∷ replace_no 0 0 1 0 0
          ∷ replace_no 18446744073709551615 0 2 1 6
          ∷ replace_no 2 1 3 3 26
          ∷ replace_no 2 1 3 3 28
          ∷ []);
      want = nats (0 ∷ 6 ∷ 6 ∷ 6 ∷ 6 ∷ 6 ∷ 7 ∷ 7 ∷ []);
    }
    -- Haze: entries to 10,000, also in the last place
    ∷ record {
      no = 25;
      got = nats
          (haze_no 6 (10000 ∷ 0 ∷ []) 6 (rgb 1 1 1)
          ∷ haze_no 5 (10000 ∷ 0 ∷ []) 5 (rgb 1 1 1)
          ∷ haze_no 6 (10000 ∷ 0 ∷ []) 5 (rgb 1 1 1)
          ∷ haze_no 6 (10001 ∷ []) 6 (rgb 0 1 1)
          ∷ haze_no 6 (10001 ∷ 0 ∷ []) 6 (rgb 0 1 1)
          ∷ haze_no 6 (10000 ∷ 10001 ∷ []) 6 (rgb 1 1 1)
          ∷ []);
      want = nats (0 ∷ 3 ∷ 4 ∷ 4 ∷ 5 ∷ 8 ∷ []);
    }
    -- bands: whole, one row, empty, turned round, one row too far; an entry above 10,000 outside the band
    ∷ record {
      no = 26;
      got = nats
          (band_no (1 ∷ 2 ∷ 3 ∷ []) 0 3
          ∷ band_no (1 ∷ 2 ∷ 3 ∷ []) 2 3
          ∷ band_no (1 ∷ 2 ∷ 3 ∷ []) 1 1
          ∷ band_no (1 ∷ 2 ∷ 3 ∷ []) 2 1
          ∷ band_no (1 ∷ 2 ∷ 3 ∷ []) 0 4
          ∷ band_no (1 ∷ 2 ∷ []) 1 1
          ∷ band_no (1 ∷ 2 ∷ 65535 ∷ []) 0 1
          ∷ []);
      want = nats (0 ∷ 0 ∷ 6 ∷ 6 ∷ 6 ∷ 4 ∷ 8 ∷ []);
    }
    -- a recovered channel, to the nearest level: two and a half of them on either side of the light, then a little less
    ∷ record {
      no = 27;
      got = nats (recover 100 101 4000 ∷ recover 100 99 4000 ∷ recover 100 101 4001 ∷ recover 100 99 4001 ∷ []);
      want = nats (103 ∷ 97 ∷ 102 ∷ 98 ∷ []);
    }
    -- radii that differ: map entries at a corner and beside it; then a light
    ∷ record { no = 28; got = map_at (shape 6 5) (radii 3 2) (rgb 200 180 190) (broad 90) (0 ∷ 7 ∷ []); want = nats (6867 ∷ 6910 ∷ []) }
    ∷ record { no = 28; got = lit (shape 6 2) (set 2 3 9500 59 1000 300) (broad 36); want = nats (167 ∷ 204 ∷ 241 ∷ []) }
    -- a light with one channel of 0
    ∷ record {
      no = 29;
      got = lit (shape 1 1) (radii 0 0) (0 ∷ 200 ∷ 100 ∷ [])
          ++ lit (shape 1 1) (radii 0 0) (200 ∷ 0 ∷ 100 ∷ [])
          ++ lit (shape 1 1) (radii 0 0) (200 ∷ 100 ∷ 0 ∷ []);
      want = nats (1 ∷ 200 ∷ 100 ∷ 200 ∷ 1 ∷ 100 ∷ 200 ∷ 100 ∷ 1 ∷ []);
    }
    -- a negative offset, a half before it is rounded down
    ∷ record { no = 30; got = line (shape 2 1) (radii 0 1) (50 ∷ 36 ∷ 215 ∷ 160 ∷ 194 ∷ 0 ∷ []) 0; want = pos 169321 ∷ neg_ℤ (pos 50076628) ∷ [] }
    -- map entries just below t0, at it and just above it
    ∷ record {
      no = 31;
      got = under (shape 3 1) (set 0 0 10000 59 100 1) (rgb 100 102 199) (101 ∷ 101 ∷ 200 ∷ 99 ∷ 103 ∷ 200 ∷ 101 ∷ 103 ∷ 197 ∷ []);
      want = nats (99 ∷ 100 ∷ 101 ∷ 200 ∷ 2 ∷ 255 ∷ 0 ∷ 202 ∷ 255 ∷ 199 ∷ 201 ∷ 1 ∷ []);
    }
    -- bands that leave the least entry out, or the next
    ∷ record {
      no = 32;
      got = bits (figure (shape 2 3) low 1 2)
          ++ bits (figure (shape 2 3) low 1 3)
          ++ bits (figure (shape 2 3) low 0 2);
      want = nats (4603683121889550533 ∷ 4602885984755505955 ∷ 4603185248950744724 ∷ 4566758108544739836 ∷ 4599417762682467936 ∷ 4562254508917369340 ∷ []);
    }
    -- other regularisations
    ∷ record {
      no = 33;
      got = under (shape 3 1) (set 0 1 9500 1000 1000 1) (rgb 221 191 212) (221 ∷ 191 ∷ 212 ∷ 111 ∷ 97 ∷ 3 ∷ 179 ∷ 20 ∷ 254 ∷ []);
      want = nats (1518 ∷ 10000 ∷ 7500 ∷ 221 ∷ 191 ∷ 212 ∷ 111 ∷ 97 ∷ 3 ∷ 165 ∷ 0 ∷ 255 ∷ []);
    }
    ∷ record {
      no = 33;
      got = under (shape 3 1) (set 0 1 9500 585225 1000 1) (rgb 221 191 212) (221 ∷ 191 ∷ 212 ∷ 111 ∷ 97 ∷ 3 ∷ 179 ∷ 20 ∷ 254 ∷ []);
      want = nats (5563 ∷ 7208 ∷ 7929 ∷ 221 ∷ 191 ∷ 212 ∷ 68 ∷ 61 ∷ 0 ∷ 168 ∷ 0 ∷ 255 ∷ []);
    }
    -- Replace of 3 by 2 pixels in 5 by 4 at reach 1: all but the first column and the last row of map and picture are new
    ∷ record {
      no = 34;
      got = nats block.frame;
      want = nats (from 0 6 byte ++ from 0 9 fresh ++ from 15 6 byte ++ from 9 9 fresh ++ from 30 30 byte);
    }
    ∷ record {
      no = 34;
      got = nats block.map;
      want = nats (1 ∷ 9478 ∷ 8100 ∷ 8100 ∷ 6533 ∷ 1 ∷ 9478 ∷ 8701 ∷ 8623 ∷ 8623 ∷ 1 ∷ 8701 ∷ 8701 ∷ 8623 ∷ 8623 ∷ 1 ∷ 1 ∷ 1 ∷ 1 ∷ 1 ∷ []);
    }
    ∷ record { no = 34; got = nats block.picture; want = nats (block_row1 ++ block_row2 ++ block_row3 ++ replicate 15 7) }
    -- reach 3, to the right and upward: the map
    ∷ record { no = 34; got = nats (strip (size 9 1) (rect 0 0 2 1)); want = nats (8198 ∷ 7968 ∷ 6769 ∷ 6739 ∷ 6230 ∷ 1 ∷ 1 ∷ 1 ∷ 1 ∷ []) }
    ∷ record { no = 34; got = nats (strip (size 1 9) (rect 0 7 1 2)); want = nats (1 ∷ 1 ∷ 1 ∷ 1 ∷ 6392 ∷ 6199 ∷ 7701 ∷ 7901 ∷ 8100 ∷ []) }
    -- m, just below 2
    ∷ record { no = 35; got = nats (m 1999 (radii 0 0) ∷ m 100 (set 0 0 9500 59 1000 15) ∷ []); want = nats (1 ∷ 1 ∷ []) }
    -- Light: each number alone, then with the next
    ∷ record {
      no = 36;
      got = nats
          (refuse_light (size 0 1) (radii 0 0) 0 false 0 16
          ∷ refuse_light (size 2 1) (radii 31 0) 2 false 6 48
          ∷ refuse_light (size 2 1) (radii 0 0) 2 false 5 48
          ∷ refuse_light (size 2 1) (radii 0 0) 2 false 6 47
          ∷ refuse_light (size 0 1) (radii 31 0) 0 false 0 16
          ∷ refuse_light (size 2 1) (radii 31 0) 2 false 5 48
          ∷ refuse_light (size 2 1) (radii 0 0) 2 false 5 47
          ∷ refuse_light (size 2 1) (radii 0 0) 2 false 6 48
          ∷ []);
      want = nats (1 ∷ 2 ∷ 3 ∷ 4 ∷ 1 ∷ 2 ∷ 3 ∷ 0 ∷ []);
    }
    -- Clear: what row 23 lacks of the same
    ∷ record {
      no = 37;
      got = nats
          (refuse_clear (size 0 1) (radii 0 0) (rgb 1 1 1) 0 0 0 0 16
          ∷ refuse_clear (size 2 1) (radii 31 0) (rgb 1 1 1) 2 6 2 6 48
          ∷ refuse_clear (size 2 1) (radii 0 0) (rgb 1 1 1) 2 6 2 6 47
          ∷ refuse_clear (size 0 1) (radii 31 0) (rgb 1 1 1) 0 0 0 0 16
          ∷ refuse_clear (size 2 1) (radii 31 0) (rgb 1 1 1) 2 5 2 6 48
          ∷ []);
      want = nats (1 ∷ 2 ∷ 4 ∷ 1 ∷ 2 ∷ []);
    }
    -- Replace: each number alone that row 24 lacks, 4 in its three ways; then with the next
    ∷ record {
      no = 38;
      got = nats
          (refuse_replace (size 1025 1) (radii 0 0) (rgb 1 1 1) (rect 0 0 1 1) 3 1025 3075 1025 3075 16416
          ∷ refuse_replace (size 5 4) (radii 31 0) (rgb 1 1 1) (rect 2 1 3 3) 27 20 60 20 60 240
          ∷ refuse_replace (size 5 4) (radii 0 0) (rgb 1 1 1) (rect 2 1 3 3) 27 20 59 20 60 240
          ∷ refuse_replace (size 5 4) (radii 0 0) (rgb 1 1 1) (rect 2 1 3 3) 27 20 60 19 60 240
          ∷ refuse_replace (size 5 4) (radii 0 0) (rgb 1 1 1) (rect 2 1 3 3) 27 20 60 20 61 240
          ∷ refuse_replace (size 5 4) (radii 0 0) (rgb 1 1 1) (rect 2 1 3 3) 27 20 60 20 60 239
          ∷ refuse_replace (size 5 4) (radii 0 0) (rgb 1 0 1) (rect 2 1 3 3) 27 20 60 20 60 240
          ∷ []);
      want = nats (1 ∷ 2 ∷ 3 ∷ 4 ∷ 4 ∷ 4 ∷ 5 ∷ []);
    }
    ∷ record {
      no = 38;
      got = nats
          (refuse_replace (size 1025 1) (radii 31 0) (rgb 1 1 1) (rect 0 0 1 1) 3 1025 3075 1025 3075 16416
          ∷ refuse_replace (size 5 4) (radii 31 0) (rgb 1 1 1) (rect 2 1 3 3) 27 20 59 20 60 240
          ∷ refuse_replace (size 5 4) (radii 0 0) (rgb 1 1 1) (rect 2 1 3 3) 27 20 59 19 60 240
          ∷ refuse_replace (size 5 4) (radii 0 0) (rgb 0 1 1) (rect 2 1 3 3) 27 20 60 20 60 239
          ∷ refuse_replace (size 5 4) (radii 0 0) (rgb 1 1 0) (rect 2 1 4 3) 36 20 60 20 60 240
          ∷ refuse_replace (size 5 4) (radii 0 0) (rgb 1 1 1) (rect 2 1 4 3) 27 20 60 20 60 240
          ∷ []);
      want = nats (1 ∷ 2 ∷ 3 ∷ 4 ∷ 5 ∷ 6 ∷ []);
    }
    -- Haze: what row 25 lacks
    ∷ record {
      no = 39;
      got = nats
          (refuse_haze (size 0 1) (rgb 1 1 1) 0 [] 0
          ∷ refuse_haze (size 2 1) (rgb 1 1 1) 5 (9 ∷ 9 ∷ []) 6
          ∷ refuse_haze (size 2 1) (rgb 1 1 1) 6 (9 ∷ []) 6
          ∷ refuse_haze (size 2 1) (rgb 1 1 1) 6 (9 ∷ 9 ∷ []) 7
          ∷ refuse_haze (size 2 1) (rgb 1 1 0) 6 (9 ∷ 9 ∷ []) 6
          ∷ refuse_haze (size 0 1) (rgb 1 1 1) 1 [] 0
          ∷ refuse_haze (size 2 1) (rgb 1 0 1) 6 (9 ∷ []) 6
          ∷ []);
      want = nats (1 ∷ 3 ∷ 4 ∷ 4 ∷ 5 ∷ 1 ∷ 4 ∷ []);
    }
    -- Band figure: what row 26 lacks
    ∷ record {
      no = 40;
      got = nats
          (refuse_band (size 0 3) [] 0 3
          ∷ refuse_band (size 1 3) (1 ∷ 2 ∷ []) 0 1
          ∷ refuse_band (size 1 3) (1 ∷ 2 ∷ 3 ∷ 4 ∷ []) 0 1
          ∷ refuse_band (size 0 3) (1 ∷ []) 0 3
          ∷ refuse_band (size 1 3) (1 ∷ 2 ∷ 65535 ∷ []) 1 1
          ∷ []);
      want = nats (1 ∷ 4 ∷ 4 ∷ 1 ∷ 6 ∷ []);
    }
    -- white, black and a colour between, under the brightest and the darkest light
    ∷ record {
      no = 41;
      got = under (shape 3 1) (radii 0 1) (rgb 255 255 255) (255 ∷ 255 ∷ 255 ∷ 0 ∷ 0 ∷ 0 ∷ 254 ∷ 255 ∷ 1 ∷ []);
      want = nats (1851 ∷ 10000 ∷ 7939 ∷ 255 ∷ 255 ∷ 255 ∷ 0 ∷ 0 ∷ 0 ∷ 254 ∷ 255 ∷ 0 ∷ []);
    }
    ∷ record {
      no = 41;
      got = under (shape 3 1) (radii 0 1) (rgb 1 1 1) (255 ∷ 255 ∷ 255 ∷ 0 ∷ 0 ∷ 0 ∷ 254 ∷ 255 ∷ 1 ∷ []);
      want = nats (0 ∷ 9770 ∷ 1520 ∷ 255 ∷ 255 ∷ 255 ∷ 0 ∷ 0 ∷ 0 ∷ 255 ∷ 255 ∷ 1 ∷ []);
    }
    -- other omegas
    ∷ record {
      no = 42;
      got = under (shape 1 1) (set 0 0 1 59 1000 1) (rgb 200 180 190) (150 ∷ 151 ∷ 152 ∷ [])
          ++ under (shape 1 1) (set 0 0 1234 59 1000 1) (rgb 200 180 190) (150 ∷ 151 ∷ 152 ∷ [])
          ++ under (shape 1 1) (set 0 0 10000 59 1000 1) (rgb 200 180 190) (150 ∷ 151 ∷ 152 ∷ []);
      want = nats (10000 ∷ 150 ∷ 151 ∷ 152 ∷ 9075 ∷ 145 ∷ 148 ∷ 148 ∷ 2500 ∷ 0 ∷ 64 ∷ 38 ∷ []);
    }
    ∷ []
