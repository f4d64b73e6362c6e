-- What a caller knows of a call that is let pass, from its refusal number 0, for each of the five calls. The fields of lengths say what the buffers hold.
-- Assumes nothing.
use mathlib.Core.Path.{◌≡◌}
use mathlib.Core.Bool.{◌||◌}
use mathlib.Core.List.{List}
use Prim.Native.Nat.{ℕ, ◌*◌, ◌≤◌, ◌<◌}
use lib.ListN.{length, get_or}
use lib.IntN.{ℤ}
use Rattle.rules.specs.Shape.{described, room}
use Rattle.rules.specs.declared.Size.{Size}
use Rattle.rules.specs.declared.Settings.{Settings}
use Rattle.rules.specs.declared.Rgb.{Rgb}
use Rattle.rules.specs.declared.Rect.{Rect}
use Rattle.rules.specs.Setup.{Setup, shape}
use Rattle.rules.specs.Good.{GoodSize, GoodSettings, GoodLight, GoodRect, AcceptedLight}
use Rattle.rules.specs.Refusals.{bad_frame, bad_map, bad_mask, bad_work, bad_seen, refuse_haze, refuse_band}
use Rattle.rules.specs.Promise.{Lent, no_light, no_clear, no_replace}
use Rattle.rules.proofs.Good.{neither, size_good, settings_good, light_good, frame_good, map_good, mask_good, work_good, entries_good, rect_good, new_good, band_good}
use Rattle.rules.proofs.Exactly.{light_exact, clear_exact, replace_exact, haze_exact, band_exact}

pub light_accepted : (z : Size) (k : Settings) (mask frame : List ℕ) (work : List ℤ) → no_light z k mask frame work ≡ 0 → AcceptedLight z k mask (length frame) (length work)
light_accepted z k mask frame work e =
    let n = (light_exact z k (length mask) (bad_seen mask) (length frame) (length work)).free e in
    let four = neither (bad_mask z (length mask)) (bad_work z (length work)) n.1.1.1.0 in
    record {
      size = size_good z n.0;
      settings = settings_good k n.1.0;
      shown = mask_good z (length mask) four.0;
      some = n.1.1.1.1.0;
      bytes = frame_good z (length frame) n.1.1.0;
      space = work_good z (length work) four.1;
    }

pub record AcceptedClear (p : Setup) (l : Lent) : Type 0 where
  pub size : GoodSize (shape p)
  pub settings : GoodSettings p.settings
  pub light : GoodLight p.light
  pub shown : length p.mask ≡ (shape p).w * (shape p).h
  pub bytes : length l.frame ≡ 3 * ((shape p).w * (shape p).h)
  pub entries : length l.map ≡ (shape p).w * (shape p).h
  pub colours : length l.picture ≡ 3 * ((shape p).w * (shape p).h)
  pub space : room (shape p) ≤ length l.work

pub clear_accepted : (p : Setup) (l : Lent) → no_clear p l ≡ 0 → AcceptedClear p l
clear_accepted p l e =
    let z = p.size in
    let n = (clear_exact p l).free e in
    let bytes = bad_mask z (length p.mask) || bad_frame z (length l.picture) in
    let four = neither (bytes || bad_map z (length l.map)) (bad_work z (length l.work)) n.1.1.1.0 in
    let three = neither bytes (bad_map z (length l.map)) four.0 in
    let two = neither (bad_mask z (length p.mask)) (bad_frame z (length l.picture)) three.0 in
    record {
      size = size_good z n.0;
      settings = settings_good p.settings n.1.0;
      light = light_good p.light n.1.1.1.1.0;
      bytes = frame_good z (length l.frame) n.1.1.0;
      shown = mask_good z (length p.mask) two.0;
      entries = map_good z (length l.map) three.1;
      colours = frame_good z (length l.picture) two.1;
      space = work_good z (length l.work) four.1;
    }

pub record AcceptedReplace (p : Setup) (c : Rect) (new : List ℕ) (l : Lent) : Type 0 where
  pub clear : AcceptedClear p l
  pub rect : GoodRect (shape p) c
  pub pixels : length new ≡ 3 * (c.w * c.h)

pub replace_accepted : (p : Setup) (c : Rect) (new : List ℕ) (l : Lent) → no_replace p c new l ≡ 0 → AcceptedReplace p c new l
replace_accepted p c new l e =
    let n = (replace_exact p c new l).free e in
    let clear = (clear_exact p l).frees (n.0, (n.1.0, (n.1.1.0, (n.1.1.1.0, (n.1.1.1.1.0, tt))))) in
    record {
      clear = clear_accepted p l clear;
      rect = rect_good p.size c n.1.1.1.1.1.0;
      pixels = new_good c (length new) n.1.1.1.1.1.1.0;
    }

pub record AcceptedHaze (z : Size) (a : Rgb) (clean : ℕ) (map : List ℕ) (hazed : ℕ) : Type 0 where
  pub size : GoodSize (described z)
  pub light : GoodLight a
  pub bytes : clean ≡ 3 * (z.w * z.h)
  pub colours : hazed ≡ 3 * (z.w * z.h)
  pub entries : length map ≡ z.w * z.h
  pub low : (p : ℕ) → get_or map p 0 ≤ 10000

pub haze_accepted : (z : Size) (a : Rgb) (clean : ℕ) (map : List ℕ) (hazed : ℕ) → refuse_haze z a clean map hazed ≡ 0 → AcceptedHaze z a clean map hazed
haze_accepted z a clean map hazed e =
    let n = (haze_exact z a clean map hazed).free e in
    let two = neither (bad_frame z hazed) (bad_map z (length map)) n.1.1.0 in
    record {
      size = size_good z n.0;
      light = light_good a n.1.1.1.0;
      bytes = frame_good z clean n.1.0;
      colours = frame_good z hazed two.0;
      entries = map_good z (length map) two.1;
      low = entries_good map n.1.1.1.1.0;
    }

pub record AcceptedBand (z : Size) (map : List ℕ) (start end : ℕ) : Type 0 where
  pub size : GoodSize (described z)
  pub entries : length map ≡ z.w * z.h
  pub some : start < end
  pub inside : end ≤ z.h
  pub low : (p : ℕ) → get_or map p 0 ≤ 10000

pub band_accepted : (z : Size) (map : List ℕ) (start end : ℕ) → refuse_band z map start end ≡ 0 → AcceptedBand z map start end
band_accepted z map start end e =
    let n = (band_exact z map start end).free e in
    let rows = band_good z start end n.1.1.0 in
    record {
      size = size_good z n.0;
      entries = map_good z (length map) n.1.0;
      some = rows.0;
      inside = rows.1;
      low = entries_good map n.1.1.1.0;
    }
