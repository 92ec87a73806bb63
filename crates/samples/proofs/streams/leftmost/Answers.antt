use Rattle.std.proofs.Common.{◌≡◌, ap₂, eqb, ◌&&◌, ◌||◌, rules}
use Rattle.std.specs.Int.Signed.{lt_z}
use Rattle.std.specs.Int.{w32}
use mir.Val.{of_z}
use Rattle.whole.specs.Laws.{eqZ}
use Rattle.rules.specs.Chain.{leftmost}
use Rattle.samples.specs.StreamWords.{read, words_equal}
use Rattle.samples.proofs.streams.leftmost.Goals as goal

-- the tests of the words are those of the numbers
pub returns : goal.returns
unfolding leftmost
returns c =
    let p = c.args.p in
    let q = c.args.q in
    let pe : read p.east ≡ p.east = search rules in
    let qe : read q.east ≡ q.east = search rules in
    let pn : read p.north ≡ p.north = search rules in
    let qn : read q.north ≡ q.north = search rules in
    let one : eqb (of_z w32 p.east) (of_z w32 q.east) ≡ eqZ p.east q.east = words_equal w32 p.east q.east (search rules) (search rules) in
    ap₂ ◌||◌ (ap₂ lt_z pe qe) (ap₂ ◌&&◌ one (ap₂ lt_z qn pn))
