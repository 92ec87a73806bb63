use Rattle.std.proofs.Common.{◌≡◌, sym, ap, ap₂, ◌∙◌, Bool, false, ◌&&◌, ◌||◌, rules}
use Rattle.std.specs.Int.Signed.{lt_z}
use Rattle.std.specs.Int.{w32}
use mir.Val.{to_z, of_z}
use Rattle.whole.specs.Laws.{eqZ, eq_test, ne_test}
use Rattle.rules.specs.Chain.{leftmost}
use Rattle.samples.specs.StreamWords.{read}
use Rattle.envelope.proofs.turn.leftmost_by_jumps.Goals as goal

pub returns-then-p-q : goal.returns-then-p-q
unfolding leftmost
returns-then-p-q c =
    let a = c.args in
    let pe : read a.p.east ≡ a.p.east = search rules in
    let qe : read a.q.east ≡ a.q.east = search rules in
    ap (λ (b : Bool). b || eqZ a.p.east a.q.east && lt_z a.q.north a.p.north) (sym c.if-p-q.true ∙ ap₂ lt_z pe qe)

pub returns-then-p-q-2 : goal.returns-then-p-q-2
unfolding leftmost
returns-then-p-q-2 c =
    let a = c.args in
    let pe : read a.p.east ≡ a.p.east = search rules in
    let qe : read a.q.east ≡ a.q.east = search rules in
    let pn : read a.p.north ≡ a.p.north = search rules in
    let qn : read a.q.north ≡ a.q.north = search rules in
    let same : a.p.east ≡ a.q.east = sym pe ∙ ap (to_z w32) c.if-p-q-2.true ∙ qe in
    let not_west : lt_z a.p.east a.q.east ≡ false = ap₂ lt_z (sym pe) (sym qe) ∙ c.if-p-q.false in
    ap₂ lt_z qn pn ∙ ap₂ (λ (s t : Bool). s || t && lt_z a.q.north a.p.north) (sym not_west) (sym (eq_test same))

pub returns : goal.returns
unfolding leftmost
returns c =
    let a = c.args in
    let pe : read a.p.east ≡ a.p.east = search rules in
    let qe : read a.q.east ≡ a.q.east = search rules in
    let not_west : lt_z a.p.east a.q.east ≡ false = ap₂ lt_z (sym pe) (sym qe) ∙ c.if-p-q.false in
    ap₂ (λ (s t : Bool). s || t && lt_z a.q.north a.p.north)
    (sym not_west)
    (sym (ne_test {a = a.p.east} {b = a.q.east} (λ e. c.if-p-q-2.false (ap (of_z w32) e))))
