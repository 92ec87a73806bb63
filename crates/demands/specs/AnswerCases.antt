-- What an entry answered, from what it says in the rules' words. Assumes nothing.
use Rattle.std.specs.Prelude.{◌≡◌, ℕ, Result, Ok, Err}
use Rattle.std.proofs.Common.{sym, ap, ap₂, arith}
use Rattle.rules.specs.Bridge.{Bridge}
use Rattle.rules.specs.Refusals.{refused, done}
use Rattle.rules.specs.Entries.{Strongest}
use Rattle.samples.specs.Answers.{answer_as, answer_of, number_of, number_injective}
use Rattle.samples.specs.declared.refusals.Refusal.{Refusal}
use Rattle.samples.specs.declared.refusals.Reason.{Reason}
use Rattle.bridge.specs.Promise.{ends_of}
use Rattle.bridge.specs.declared.Ends.{Ends}
use Rattle.round.specs.Promise as rounding
use Rattle.round.specs.declared.turn.Said.{Said}
use Rattle.round.specs.declared.turn.Said.TheVariants as round-said
use Rattle.envelope.specs.UseAnswers.{strongest_as}
use Rattle.envelope.specs.declared.strongest.Greatest.{Greatest}

no_answer : {A : Type 0} {number place : ℕ} {x : A} {R : Type 0} → refused number place ≡ done x → R
no_answer e = absurd (let z : ◌≡◌ {A = ℕ} 0 1 = cc in omega arith)

-- an entry that is done answers what the rules say
pub answer_done : {A : Type 0} (r : Result A Refusal) {x : A} → answer_of r ≡ done x → r ≡ Ok x
answer_done (Ok y) e = cc
answer_done (Err r) e = no_answer e

-- one that is refused answers with the reason of that number
pub answer_refused : {A B : Type 0} (f : A → B) (r : Result A Refusal) (reason : Reason) {place : ℕ} → answer_as f r ≡ refused (number_of reason) place
    → r ≡ Err (record { reason = reason; place = place })
answer_refused f (Ok x) reason e = no_answer (sym e)
answer_refused f (Err r) reason e =
    let number : number_of r.reason ≡ number_of reason = cc in
    let place : r.place ≡ _ = cc in
    ap₂ (λ (k : Reason) (p : ℕ). Err (record { reason = k; place = p })) (number_injective r.reason reason number) place

pub bridge_found : (r : Result Ends Refusal) {b : Bridge ℕ} → answer_as ends_of r ≡ done b → r ≡ Ok (record { left = b.left; right = b.right })
bridge_found (Ok e) {b} h = let is : b ≡ ends_of e = cc in ap (λ (b : Bridge ℕ). Ok (record { left = b.left; right = b.right })) (sym is)
bridge_found (Err r) h = no_answer h

pub round_found : (r : Result Said Refusal) {b : Bridge ℕ} → answer_as rounding.told_by r ≡ done (rounding.bridge_of b) → r ≡ Ok (round-said.Found b.left b.right)
round_found (Ok (round-said.Found i j)) e = cc
round_found (Ok (round-said.Kept m)) e = absurd (let z : ◌≡◌ {A = ℕ} 0 1 = cc in omega arith)
round_found (Err r) e = no_answer e

pub round-kept : (r : Result Said Refusal) {m : ℕ} → answer_as rounding.told_by r ≡ done (rounding.count_of m) → r ≡ Ok (round-said.Kept m)
round-kept (Ok (round-said.Found i j)) e = absurd (let z : ◌≡◌ {A = ℕ} 0 1 = cc in omega arith)
round-kept (Ok (round-said.Kept m)) e = cc
round-kept (Err r) e = no_answer e

pub strongest-greatest : (r : Result Greatest Refusal) {s : Strongest} → answer_as strongest_as r ≡ done s → r ≡ Ok (record { set = s.set; place = s.place })
strongest-greatest (Ok g) {s} e = let is : s ≡ strongest_as g = cc in ap (λ (s : Strongest). Ok (record { set = s.set; place = s.place })) (sym is)
strongest-greatest (Err r) e = no_answer e
