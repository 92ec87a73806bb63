-- The cut: what is picked among the keys of the easts is the east of that rank.
-- Assumes nothing.
use mathlib.Core.Path.{◌≡◌, sym, ap, ◌∙◌, subst}
use mathlib.Core.List.Memᴰ
use mathlib.Core.List.{List, map, map-map}
use Prim.Native.Nat.{ℕ, ◌-◌, ◌^◌, ◌<◌}
use native.Mathlib.Omega.{arith}
use borrow.Rule.Slice.PartMut.{mid_of}
use lib.Dec.{leb}
use lib.IntN.{ℤ}
use lib.Signed.{mag}
use lib.ListN.{length, take, drop, length-map}
use lib.Seq.{paste, length-paste, length-take-le, take-take, take_all}
use mir.Syntax.{w32}
use Rattle.whole.specs.Fits.{within-fits}
use Rattle.rules.specs.Picker.{rank}
use Rattle.laws_ranks.specs.Ranks.{HasRank}
use Rattle.picker.specs.Keys.{key_of, number_of, Words}
use Rattle.picker.specs.KeyLaws.{picked-number}
use Rattle.samples.specs.Positions.{east_of}
use Rattle.step.specs.Pasting.{paste_front, paste_part}
use Rattle.step.specs.Stepping.{CutAsks}

module _ {es : List ℤ} {w : List ℕ} {t : ℕ} (asks : CutAsks es w t) where
  abbrev list : List ℕ
  list = take t w

  keys : List ℕ
  keys = map (λ x. key_of (east_of es x)) list

  list_long : length list ≡ t
  list_long = length-take-le t w (omega (arith, asks.room))

  keys_long : length keys ≡ t
  unfolding keys
  keys_long = length-map list (λ x. key_of (east_of es x)) ∙ list_long

  -- easts within the limit are 32-bit numbers
  easts-words : Words (map (east_of es) list)
  easts-words x m =
      let o = Memᴰ.of_map (east_of es) list m in
      subst (λ (z : ℤ). mag z < 2 ^ 31) o.2 (within-fits w32 (asks.near o.0) tt).sfits

  module _ {now : List ℕ} (pasted : now ≡ paste w t (map (λ x. key_of (east_of es x)) list) t) where
    long : length now ≡ length w
    unfolding keys
    long = ap (λ (l : List ℕ). length l) pasted ∙ length-paste w t keys t (omega (arith, asks.room)) (omega (arith, keys_long))

    -- the list is as it was
    pub list-stays : take t now ≡ list
    unfolding keys
    list-stays = ap (take t) pasted ∙ paste_front w t keys t (omega (arith, asks.room)) (omega (arith, keys_long))

    -- the keys lie behind the list
    keys_behind : take t (mid_of t (length now - t) now) ≡ map key_of (map (east_of es) list)
    unfolding keys
    keys_behind =
        take-take t (length now - t) (drop t now) (omega (arith, asks.room, long))
        ∙ ap (λ (l : List ℕ). take t (drop t l)) pasted
        ∙ paste_part w t keys t (omega (arith, asks.room)) (omega (arith, keys_long))
        ∙ take_all t keys (omega (arith, keys_long))
        ∙ sym (map-map key_of (east_of es) list)

    pub cut-is : {r k : ℕ} → HasRank leb r (take t (mid_of t (length now - t) now)) k → number_of k ≡ rank r (map (east_of es) list)
    cut-is h = picked-number easts-words keys_behind h
