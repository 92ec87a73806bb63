-- The tests of an entry that takes two rings, with scratch for both, in their order: those of the first ring, of the second, of both, then its own; and two
-- rings that passed them.
-- Assumes nothing.
use Rattle.std.specs.Prelude.{◌≡◌, refl, List, ◌∷◌, [], ◌++◌, ℕ, ◌+◌, ◌*◌, ◌≤◌, ◌<◌, ℤ, length}
use Rattle.std.proofs.Common.{ap, ◌∙◌, lt-ltb, le-ltb, ltb-false}
use Rattle.rules.specs.Streams.{most}
use Rattle.rules.specs.Refusals.{Answer, refused, done, Test, unless, too_many, scratch_short}
use Rattle.rules.specs.Entries.{two_ring_tests}
use Rattle.laws_refusals.specs.NoneHold.{none_either}
use Rattle.samples.specs.InOrder.{passed_by, passed_tests, then_answer, answer_by}
use Rattle.envelope.specs.Tests.{alone_tests, Sound, sound}

-- two envelopes, of not too many corners together
pub record Rings (es ns fs ms : List ℤ) : Type 0 where
  pub first : Sound es ns
  pub second : Sound fs ms
  pub few : length es + length fs ≤ most

-- with so much scratch
module _ (es ns fs ms : List ℤ) (scratch : List ℕ) where
  abbrev both_tests : List Test
  both_tests = too_many (length es + length fs) ∷ scratch_short (length es + length fs) scratch ∷ []

  pub two_passed : {A : Type 0} (x : A) {y : A} → unless (two_ring_tests es ns fs ms scratch) x ≡ done y →
      Rings es ns fs ms × (16 * (length es + length fs) + 64 ≤ length scratch)
  two_passed x e =
      let all = passed_tests x (two_ring_tests es ns fs ms scratch) e in
      let one = none_either (alone_tests es ns) (alone_tests fs ms ++ both_tests) all in
      let two = none_either (alone_tests fs ms) both_tests one.1 in (
        record {
          first = sound es ns x (passed_by (alone_tests es ns) one.0);
          second = sound fs ms x (passed_by (alone_tests fs ms) two.0);
          few = ltb-false most (length es + length fs) two.1.0;
        },
        ltb-false (length scratch) (16 * (length es + length fs) + 64) two.1.1.0,
      )

module _ {A : Type 0} (es ns fs ms : List ℤ) (scratch : List ℕ) (own : List Test) (x : A) where
  -- what the entry answers
  abbrev pub two_answer : Answer A
  two_answer = unless (two_ring_tests es ns fs ms scratch ++ own) x

  -- the tests of both rings together, and its own
  abbrev last_tests : List Test
  last_tests = too_many (length es + length fs) ∷ scratch_short (length es + length fs) scratch ∷ own

  -- what is said of them alone
  abbrev said : List Test → Answer (Unit {0})
  said ts = unless ts tt

  by_tests : (t u : Answer (Unit {0})) → said (alone_tests es ns) ≡ t → said (alone_tests fs ms) ≡ u → two_answer ≡ then_answer t (then_answer u (unless last_tests x))
  by_tests t u e h =
      answer_by (alone_tests es ns) (alone_tests fs ms ++ last_tests) x tt e ∙ ap (then_answer t) (answer_by (alone_tests fs ms) last_tests x tt h)

  -- the first ring is refused, or the second; or both pass
  pub first_refused : {number place : ℕ} → said (alone_tests es ns) ≡ refused number place → two_answer ≡ refused number place
  first_refused {number} {place} e = by_tests (refused number place) _ e refl

  pub second_refused : {number place : ℕ} → said (alone_tests es ns) ≡ done tt → said (alone_tests fs ms) ≡ refused number place
      → two_answer ≡ refused number place
  second_refused {number} {place} e h = by_tests (done tt) (refused number place) e h

  module _ (e : said (alone_tests es ns) ≡ done tt) (h : said (alone_tests fs ms) ≡ done tt) where
    both_pass : two_answer ≡ unless last_tests x
    both_pass = by_tests (done tt) (done tt) e h

    pub many_refused : most < length es + length fs → two_answer ≡ refused 2 0
    many_refused l = both_pass ∙ rw (lt-ltb most (length es + length fs) l)

    module _ (few : length es + length fs ≤ most) where
      pub scratch_refused : length scratch < 16 * (length es + length fs) + 64 → two_answer ≡ refused 4 0
      scratch_refused l = both_pass ∙ rw (le-ltb most (length es + length fs) few, lt-ltb (length scratch) (16 * (length es + length fs) + 64) l)

      pub all_pass : 16 * (length es + length fs) + 64 ≤ length scratch → two_answer ≡ unless own x
      all_pass l = both_pass ∙ rw (le-ltb most (length es + length fs) few, le-ltb (length scratch) (16 * (length es + length fs) + 64) l)
