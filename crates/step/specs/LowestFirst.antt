-- Lists whose first item at each position is the lowest sample number there. All the lists of the chain steps are such: so a bridge's ends, which are the
-- first of their list at their positions, are told by their lowest numbers.
-- Assumes nothing.
use Rattle.std.specs.Prelude.{◌≡◌, Bool, ℕ, length}
use Rattle.std.proofs.Math.Path.{refl, ap}
use Rattle.std.proofs.Common.{sym, ◌∙◌, subst, ⊎_elim}
use Rattle.std.proofs.Math.Bool.{true, false, cond}
use Rattle.std.proofs.lemmas.Bool.{false≢true}
use Rattle.std.proofs.Math.Option.{Option, some, some-injective}
use mathlib.Core.List.Memᴰ
use mathlib.Core.List.{List, [], ◌∷◌, map, Memᴰ}
use Rattle.rules.specs.Lists.{consIf, those}
use Rattle.rules.specs.Streams.{Stream, sample, same}
use Rattle.rules.specs.Chain.{lowest}
use Rattle.laws_outline.specs.ListLaws.{those_in, is_some_of}
use Rattle.laws_outline.specs.SamePosition.{same_equal, equal_same}
use Rattle.laws_rounds.specs.ListedItems.{first_of, first_of_in}
use Rattle.laws_rounds.specs.Pairs.{here}
use Rattle.laws_rounds.specs.WholeList.{numbers, numbers-samples, first-is-lowest}

-- items taken away that fail a second test do not change the first that passes
first_of_those : {A : Type 0} (f g : A → Bool) → ((x : A) → g x ≡ true → f x ≡ true) → (l : List A) → first_of g (those f l) ≡ first_of g l
unfolding first_of those
first_of_those f g h [] = refl
first_of_those {A} f g h (x ∷ l) = go (f x) (g x) refl refl (first_of_those f g h l)
  where
    go : (b c : Bool) → f x ≡ b → g x ≡ c → first_of g (those f l) ≡ first_of g l
        → first_of g (consIf b x (those f l)) ≡ cond c (some x) (first_of g l)
    go true c p q r = ap (λ (d : Bool). cond d (some x) (first_of g (those f l))) q ∙ ap (λ (o : Option A). cond c (some x) o) r
    go false true p q r = absurd (false≢true (sym p ∙ h x q))
    go false false p q r = r

module _ (at : ℕ → Stream) (number : Stream → ℕ) where
  -- the first item of the list at each of its positions is the number told for it
  abbrev pub Named : List ℕ → Type 0
  Named l = (s : Stream) → Memᴰ s (map at l) → first_of (here at s) l ≡ some (number s)

  pub named_those : (f : Stream → Bool) (l : List ℕ) → Named l → Named (those (λ x. f (at x)) l)
  named_those f l h s m =
      let o = Memᴰ.of_map at (those (λ x. f (at x)) l) m in
      let t = those_in (λ x. f (at x)) l o.1 in
      let passes : f s ≡ true = ap f (sym o.2) ∙ t.1 in
      first_of_those (λ x. f (at x)) (here at s) (λ x e. ap f (sym (same_equal s (at x) e)) ∙ passes) l
      ∙ h s (subst (λ (p : Stream). Memᴰ p (map at l)) o.2 (Memᴰ.map at t.0))

  pub named_cons : (x : ℕ) (l : List ℕ) → number (at x) ≡ x → Named l → Named (x ∷ l)
  unfolding first_of
  named_cons x l e h s m = go (same s (at x)) refl
    where
      go : (b : Bool) → same s (at x) ≡ b → cond b (some x) (first_of (here at s) l) ≡ some (number s)
      go true p = ap some (sym (ap number (same_equal s (at x) p) ∙ e))
      go false p = h s (⊎_elim (λ q. absurd (false≢true (sym p ∙ equal_same q))) (λ n. n) (Memᴰ.cases_cons m))

  -- so the first item at a position is told by its own number
  pub named_first : (l : List ℕ) {x : ℕ} → Named l → first_of (here at (at x)) l ≡ some x → number (at x) ≡ x
  named_first l {x} h e =
      some-injective (number (at x)) x (sym (h (at x) (Memᴰ.map at (first_of_in (here at (at x)) l e).0)) ∙ e)

-- all samples in their order
pub named_samples : (xs : List Stream) → Named (sample xs) (lowest xs) (numbers (length xs))
named_samples xs s m =
    first-is-lowest xs s (is_some_of (same s) (subst (λ (l : List Stream). Memᴰ s l) (numbers-samples xs) m) (equal_same {p = s} refl))
