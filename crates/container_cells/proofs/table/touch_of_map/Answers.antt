use Rattle.std.proofs.Common.{◌≡◌, ℕ, None, refl, sym, subst, arith}
use Rattle.container_cells.specs.declared.table.Family.TheVariants.{Maps}
use Rattle.container_cells.specs.Table.{touch_of}
use Rattle.container_cells.proofs.Misses.{no-method, no-number}
use Rattle.container_cells.proofs.table.touch_of_map.Goals as goal

pub returns-in_default : goal.returns-in_default
returns-in_default c =
    let w = c.in_default in
    subst (λ (n : ℕ). None ≡ touch_of Maps c.args.method.now n) (sym c.if-count-eq0.true)
    (no-method Maps c.args.method.now 0 w.not-size w.not-isEmpty w.not-clear)

pub returns-in_default-method : goal.returns-in_default-method
returns-in_default-method c =
    let w = c.in_default-method in
    subst (λ (n : ℕ). None ≡ touch_of Maps c.args.method.now n) (sym c.if-count-eq1.true)
    (no-method Maps c.args.method.now 1 w.not-get w.not-containsKey w.not-containsValue w.not-putAll w.not-remove)

pub returns-in_default-method-2 : goal.returns-in_default-method-2
returns-in_default-method-2 c =
    let w = c.in_default-method-2 in
    subst (λ (n : ℕ). None ≡ touch_of Maps c.args.method.now n) (sym c.if-count-eq2.true)
    (no-method Maps c.args.method.now 2 w.not-getOrDefault w.not-put w.not-putIfAbsent)

pub returns : goal.returns
returns c =
    no-number Maps c.args.method.now c.args.count 3 refl refl
    (omega (arith, c.if-count-eq0.false, c.if-count-eq1.false, c.if-count-eq2.false))
