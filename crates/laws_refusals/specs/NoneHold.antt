-- An entry is done exactly where none of its tests holds, and then answers what it was to answer.
-- Assumes nothing.
use Rattle.std.specs.Prelude.{◌≡◌, refl, Bool, true, false, cond, List, [], ◌∷◌, ◌++◌, ℕ}
use Rattle.std.proofs.Common.{ap, ◌∙◌, arith}
use Rattle.rules.specs.Refusals.{refused, done, Test, unless}

-- none holds
abbrev pub None_hold : List Test → Type 0
None_hold [] = Unit {0}
None_hold (t ∷ ts) = (t.holds ≡ false) × None_hold ts

-- of tests after others none holds exactly where none of either does
pub none_after : (ts us : List Test) → None_hold ts → None_hold us → None_hold (ts ++ us)
none_after [] us n m = m
none_after (t ∷ ts) us (h, n) m = (h, none_after ts us n m)

pub none_either : (ts us : List Test) → None_hold (ts ++ us) → None_hold ts × None_hold us
none_either [] us n = (tt, n)
none_either (t ∷ ts) us (h, n) = let r = none_either ts us n in ((h, r.0), r.1)

module _ {A : Type 0} where
  pub when_done : (ts : List Test) (x : A) {y : A} → unless ts x ≡ done y → None_hold ts × (x ≡ y)
  when_done [] x e = (tt, cc)
  when_done (t ∷ ts) x {y} e = go t.holds refl e (λ h. when_done ts x h)
    where
      go : (b : Bool) → t.holds ≡ b → cond b (refused t.number t.place) (unless ts x) ≡ done y →
          (unless ts x ≡ done y → None_hold ts × (x ≡ y)) → None_hold (t ∷ ts) × (x ≡ y)
      go true h e rest = absurd (let z : ◌≡◌ {A = ℕ} 0 1 = cc in omega arith)
      go false h e rest = let r = rest e in ((h, r.0), r.1)

  -- and where none holds it is done
  pub not_refused : (ts : List Test) (x : A) → None_hold ts → unless ts x ≡ done x
  not_refused [] x n = refl
  not_refused (t ∷ ts) x (h, n) = ap (λ (b : Bool). cond b (refused t.number t.place) (unless ts x)) h ∙ not_refused ts x n
