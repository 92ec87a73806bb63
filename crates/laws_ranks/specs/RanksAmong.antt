-- Ranks among items in place of keys, and by a test that is an order only among some items: a map that keeps the order keeps the ranks.
-- Assumes nothing.
use Rattle.std.specs.Prelude.{◌≡◌, Bool, not, ℕ, ◌-◌, ◌≤◌, ◌<◌, T}
use Rattle.std.proofs.Math.Path.{refl, sym, ap, subst, subst₂}
use Rattle.std.proofs.Common.{◌∙◌, arith}
use Rattle.std.proofs.Math.Bool.{true, false, cond}
use mathlib.Core.List.{List, [], ◌∷◌, map, Memᴰ}
use Rattle.std.proofs.Math.ListN.{length, get_or, get_or-map}
use Rattle.std.proofs.lemmas.List.{length-map}
use Rattle.rules.specs.Lists.{insert, sorted}
use Rattle.rules.specs.Picker.{ranked}
use Rattle.laws_ranks.specs.Counts.{count_map}
use Rattle.laws_ranks.specs.Ranks.{Order, HasRank, Level, under, upto, ranked-has-rank, rank_by_counts}

-- ---- items in place of keys: a map that keeps the order keeps the ranks

module _ {A B : Type 0} (g : A → B) (le : B → B → Bool) where
  -- the order of the items by their keys
  abbrev pub by_key : A → A → Bool
  by_key x y = le (g x) (g y)

  pub by_key_order : Order le → Order by_key
  by_key_order o = record { total = λ x y. o.total (g x) (g y); trans = λ x y z. o.trans (g x) (g y) (g z) }

  pub rank_of_key : {r : ℕ} {xs : List A} {v : A} → HasRank by_key r xs v → HasRank le r (map g xs) (g v)
  rank_of_key {r} {xs} {v} h =
      record {
        fewer = subst (λ (n : ℕ). n < r) (sym (count_map (under le (g v)) g xs)) h.fewer;
        enough = subst (λ (n : ℕ). r ≤ n) (sym (count_map (upto le (g v)) g xs)) h.enough;
      }

  pub rank_of_item : {r : ℕ} {xs : List A} {v : A} → HasRank le r (map g xs) (g v) → HasRank by_key r xs v
  rank_of_item {r} {xs} {v} h =
      record {
        fewer = subst (λ (n : ℕ). n < r) (count_map (under le (g v)) g xs) h.fewer;
        enough = subst (λ (n : ℕ). r ≤ n) (count_map (upto le (g v)) g xs) h.enough;
      }

  insert-map : (x : A) (ys : List A) → insert le (g x) (map g ys) ≡ map g (insert by_key x ys)
  unfolding insert
  insert-map x [] = refl
  insert-map x (y ∷ ys) = go (le (g x) (g y)) (insert-map x ys)
    where
      go : (b : Bool) → insert le (g x) (map g ys) ≡ map g (insert by_key x ys)
          → cond b (g x ∷ g y ∷ map g ys) (g y ∷ insert le (g x) (map g ys)) ≡ map g (cond b (x ∷ y ∷ ys) (y ∷ insert by_key x ys))
      go true e = refl
      go false e = ap (λ (l : List B). g y ∷ l) e

  pub sorted-map : (xs : List A) → sorted le (map g xs) ≡ map g (sorted by_key xs)
  unfolding sorted
  sorted-map [] = refl
  sorted-map (x ∷ xs) = ap (insert le (g x)) (sorted-map xs) ∙ insert-map x (sorted by_key xs)

  pub ranked-map : (d : A) (r : ℕ) (xs : List A) → ranked le (g d) r (map g xs) ≡ g (ranked by_key d r xs)
  unfolding ranked
  ranked-map d r xs = ap (λ (l : List B). get_or l (r - 1) (g d)) (sorted-map xs) ∙ get_or-map g (sorted by_key xs) (r - 1) d

-- ---- a test that is an order only among the items that P holds of, as slopes are compared by cross products where every run is above zero

pub record OrderOn {A : Type 0} (P : A → Type 0) (le : A → A → Bool) : Type 0 where
  pub total : (x y : A) → P x → P y → T (not (le x y)) → T (le y x)
  pub trans : (x y z : A) → P x → P y → P z → T (le x y) → T (le y z) → T (le x z)

-- an order of all items
pub order_on : {A : Type 0} {le : A → A → Bool} → Order le → OrderOn (λ (x : A). Unit {0}) le
order_on o = record { total = λ x y a b. o.total x y; trans = λ x y z a b c. o.trans x y z }

-- an item with what holds of it
pub record Held {A : Type 0} (P : A → Type 0) : Type 0 where
  pub item : A
  pub holds : P item

abbrev pub item_of : {A : Type 0} {P : A → Type 0} → Held P → A
item_of h = h.item

module _ {A : Type 0} {P : A → Type 0} {le : A → A → Bool} (o : OrderOn P le) where
  pub held_order : Order (by_key (item_of {P = P}) le)
  held_order =
      record {
        total = λ x y. o.total x.item y.item x.holds y.holds;
        trans = λ x y z. o.trans x.item y.item z.item x.holds y.holds z.holds;
      }

  abbrev held : (xs : List A) → ((x : A) → Memᴰ x xs → P x) → List (Held P)
  held [] h = []
  held (x ∷ xs) h = record { item = x; holds = h x (Memᴰ.head refl) } ∷ held xs (λ y m. h y (Memᴰ.tail m))

  held_items : (xs : List A) (h : (x : A) → Memᴰ x xs → P x) → map item_of (held xs h) ≡ xs
  held_items [] h = refl
  held_items (x ∷ xs) h = ap (λ (l : List A). x ∷ l) (held_items xs (λ y m. h y (Memᴰ.tail m)))

  module _ (xs : List A) (all : (x : A) → Memᴰ x xs → P x) (d : A) (Pd : P d) (r : ℕ) where
    default : Held P
    default = record { item = d; holds = Pd }

    smallest : Held P
    smallest = ranked (by_key item_of le) default r (held xs all)

    is-ranked : smallest.item ≡ ranked le d r xs
    unfolding smallest default
    is-ranked = sym (ranked-map item_of le default r (held xs all)) ∙ ap (ranked le d r) (held_items xs all)

    pub ranked_holds_on : P (ranked le d r xs)
    ranked_holds_on = subst P is-ranked smallest.holds

    pub ranked_has_rank_on : 1 ≤ r → r ≤ length xs → HasRank le r xs (ranked le d r xs)
    unfolding smallest default
    ranked_has_rank_on low high =
        let long : length (held xs all) ≡ length xs = sym (length-map (held xs all) item_of) ∙ ap length (held_items xs all) in
        let h = ranked-has-rank held_order default r (held xs all) low (omega arith) in
        subst₂ (λ (l : List A) (v : A). HasRank le r l v) (held_items xs all) is-ranked (rank_of_key item_of le h)

    pub rank_by_counts_on : {v : A} → P v → HasRank le r xs v → Level le v (ranked le d r xs)
    unfolding smallest default
    rank_by_counts_on {v} Pv h =
        let hv : Held P = record { item = v; holds = Pv } in
        let g = subst (λ (l : List A). HasRank le r l v) (sym (held_items xs all)) h in
        let k = rank_by_counts held_order default {v = hv} (rank_of_item item_of le g) in
        subst (λ (w : A). Level le v w) is-ranked (record { low = k.low; high = k.high })
