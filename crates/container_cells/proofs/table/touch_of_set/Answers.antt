use Rattle.std.proofs.Common.{◌≡◌, ℕ, None, refl, sym, subst, arith}
use Rattle.container_cells.specs.declared.table.Family.TheVariants.{Sets}
use Rattle.container_cells.specs.Table.{touch_of}
use Rattle.container_cells.proofs.Misses.{no-method, no-number}
use Rattle.container_cells.proofs.table.touch_of_set.Goals as goal

pub returns-in_default : goal.returns-in_default
returns-in_default c =
    let w = c.in_default in
    subst (λ (n : ℕ). None ≡ touch_of Sets c.args.method.now n) (sym c.if-count-eq0.true)
    (no-method Sets c.args.method.now 0 w.not-size w.not-isEmpty w.not-clear)

pub returns-in_default-method : goal.returns-in_default-method
returns-in_default-method c =
    let w = c.in_default-method in
    subst (λ (n : ℕ). None ≡ touch_of Sets c.args.method.now n) (sym c.if-count-eq1.true)
    (no-method Sets c.args.method.now 1 w.not-contains w.not-add w.not-addAll w.not-remove)

pub returns : goal.returns
returns c =
    no-number Sets c.args.method.now c.args.count 2 refl refl (omega (arith, c.if-count-eq0.false, c.if-count-eq1.false))
