use Rattle.std.proofs.Common.{◌≡◌, ◌<◌, ◌+◌, ℕ, ℤ, List, map, length, take, get_or, set, sym, ap, ap₂, ◌∙◌, arith, rules, pos, to_z, of_z, w32, get_or-take, length-take-le}
use Rattle.std.proofs.Math.Path.{subst⁻¹}
use Rattle.std.proofs.Math.ListN.{get_or-map}
use Rattle.std.proofs.Math.Seq.{paste}
use Rattle.std.proofs.lemmas.List.{length-map}
use Rattle.std.proofs.lemmas.List.Edits.{paste_more}
use Rattle.picker.specs.Keys.{key_of}
use Rattle.samples.specs.Positions.{east_of}
use Rattle.samples.specs.Samples.{listed_at}
use Rattle.step.specs.NumberLists.{EastsAsk}
use Rattle.step.specs.Pasting.{paste_front}
use Rattle.step.proofs.lists.easts.Goals as goal

module _ {e : List ℤ} {w : List ℕ} {t : ℕ} (asks : EastsAsk e w t) where
  -- the keys of the easts of the list
  abbrev keys : List ℕ
  keys = map (λ x. key_of (east_of e x)) (take t w)

  list_long : length (take t w) ≡ t
  list_long = length-take-le t w (omega (arith, asks.room))

  keys_long : length keys ≡ t
  keys_long = length-map (take t w) (λ x. key_of (east_of e x)) ∙ list_long

  -- the number at place i is as it was
  item : {now : List ℕ} {i : ℕ} → i < t → now ≡ paste w t keys i → get_or now i 0 ≡ get_or (take t w) i 0
  item {now} {i} h p =
      sym (get_or-take t now i 0 h)
      ∙ ap (λ (l : List ℕ). get_or l i 0) (ap (take t) p ∙ paste_front w t keys i (omega (arith, asks.room)) (omega (arith, keys_long)))

  -- it is a sample's
  below : {now : List ℕ} {i : ℕ} → i < t → now ≡ paste w t keys i → get_or now i 0 < length e
  below {i = i} h p = subst⁻¹ (λ (x : ℕ). x < length e) (item h p) (listed_at asks.listed i (omega (arith, list_long)))

  -- one key more
  more : {now : List ℕ} {i : ℕ} → i < t → (p : now ≡ paste w t keys i) {k : ℕ} → k ≡ key_of (east_of e (get_or now i 0))
      → set now (t + i) k ≡ paste w t keys (i + 1)
  more {now} {i} h p {k} s =
      ap₂ (λ (l : List ℕ) (x : ℕ). set l (t + i) x) p
      (s ∙ ap (λ (x : ℕ). key_of (east_of e x)) (item h p) ∙ sym (get_or-map (λ x. key_of (east_of e x)) (take t w) i 0))
      ∙ paste_more w t keys i (key_of (east_of e 0)) (omega (arith, asks.room)) (omega (arith, keys_long))

pub bounds-e-w : goal.bounds-e-w
bounds-e-w c = below c.requires (omega arith) c.loop-i.invariant

pub loop-i-preserved : goal.loop-i-preserved
loop-i-preserved c =
    let a = c.args in
    let l = c.loop-i in
    let r : to_z w32 (of_z w32 (get_or a.e.now (get_or l.w l.i 0) (pos 0))) ≡ get_or a.e.now (get_or l.w l.i 0) (pos 0) = search rules in
    more c.requires (omega arith) l.invariant (c.key.ensures ∙ ap key_of r)
