use Rattle.std.specs.Prelude.{◌≡◌, List, ℕ}
use Rattle.std.proofs.Common.{refl, sym, ap, rules}
use Rattle.rules.specs.Program.{Cut, space, cut_at, parts, line}
use Rattle.text.proofs.reading.read_line.Goals as goal

by_cut : (s : List ℕ) {cut : Cut} → cut ≡ cut_at space s → line s ≡ parts cut
unfolding line
by_cut s e = ap parts (sym e)

pub returns-in_err-east : goal.returns-in_err-east
returns-in_err-east c = rw (c.from_residual.ensures, by_cut c.args.s.now c.in_err-east.ensures) refl

pub returns-in_err-east-2 : goal.returns-in_err-east-2
returns-in_err-east-2 c =
    rw (c.from_residual-in_err-east-2.ensures, by_cut c.args.s.now c.in_ok-east.ensures, ← c.in_err-east-2.ensures) refl

pub returns-in_err-north : goal.returns-in_err-north
returns-in_err-north c =
    rw (c.from_residual-in_err-north.ensures, by_cut c.args.s.now c.in_ok-east.ensures, ← c.in_ok-east-2.ensures, ← c.in_err-north.ensures) refl

pub returns : goal.returns
returns c = rw (by_cut c.args.s.now c.in_ok-east.ensures, ← c.in_ok-east-2.ensures, ← c.in_ok-north.ensures) (search rules)
