use Rattle.std.proofs.Common.{◌≡◌, ◌+◌, Bool, true, false, List, [], ◌∷◌, ◌++◌, length, map, drop}
use Rattle.std.proofs.Common.{IfOk, OnOk, Option, None, arith, is_some, take, rules, refl, sym, ap, subst, ◌∙◌}
use Rattle.std.proofs.lemmas.List.{at_drop_all}
use Rattle.core_code.specs.declared.code.Code.{Code}
use Rattle.core_code.specs.declared.code.Code.TheFolds.{the_lemmas}
use Rattle.core_code.specs.declared.code.Op.{Op as CoreOp}
use Rattle.core_code.specs.Tree.{LockAt, Tree, Op, Seq, Choice, Loop, Sync, tree_of, in_sequence}
use Rattle.core_code.proofs.PartsLeft.{parts-turn}
use Rattle.core_ways.specs.Paths.{op_there, path_to, path_where}
use Rattle.core_ways.specs.Ways.{has_site}
use Rattle.core_ways.proofs.SitePaths.{op-found, op-missed, op-path, none-path-whole}
use Rattle.core_ways.proofs.SitePaths.{first-there, second-there, has-found, first-path, second-path, none-path}
use Rattle.core_ways.proofs.SitePaths.{cut-back, start-stays, path-on, where-there}
use Rattle.core_ways.proofs.finding.+finding.Goals as goal

pub find-returns-then-is_some-clause-there : goal.find-returns-then-is_some-clause-there
find-returns-then-is_some-clause-there t c =
    let a = tree_of c.deref.result.now in
    let b = tree_of c.in-Choice.right.value in
    let sides : tree_of c.args.code.now ≡ Choice a b = search (rules, the_lemmas) in
    let found = c.in-Ok-find.found in
    let some : is_some found ≡ true = search rules in
    subst (λ (code : Tree). found ≡ op_there code c.args.site) (sym sides)
    (first-there a b c.args.site found c.in-Ok-find.ensures.there some)

pub find-returns-then-is_some-clause-path : goal.find-returns-then-is_some-clause-path
find-returns-then-is_some-clause-path t c =
    let a = tree_of c.deref.result.now in
    let b = tree_of c.in-Choice.right.value in
    let sides : tree_of c.args.code.now ≡ Choice a b = search (rules, the_lemmas) in
    let found = c.in-Ok-find.found in
    let some : is_some found ≡ true = search rules in
    let old = c.args.path.now.items in
    subst (λ (code : Tree). c.find.new.path.items ≡ old ++ path_where c.args.site code) (sym sides)
    (first-path a b c.args.site old c.push.new.self.items c.find.new.path.items c.in-Ok.ensures.items
    c.in-Ok-find.ensures.path
    (has-found a c.args.site found true c.in-Ok-find.ensures.there some))

pub find-returns-then-is_none-clause-there : goal.find-returns-then-is_none-clause-there
find-returns-then-is_none-clause-there t c =
    let a = tree_of c.deref.result.now in
    let b = tree_of c.deref-in-Choice.result.now in
    let sides : tree_of c.args.code.now ≡ Choice a b = search (rules, the_lemmas) in
    let first = c.in-Ok-find.found in
    let none : is_some first ≡ false = search rules in
    let found = c.in-Ok-find-2.found in
    subst (λ (code : Tree). found ≡ op_there code c.args.site) (sym sides)
    (c.in-Ok-find-2.ensures.there
    ∙ second-there a b c.args.site first c.in-Ok-find.ensures.there none)

pub find-returns-else-is_none-clause-there : goal.find-returns-else-is_none-clause-there
find-returns-else-is_none-clause-there t c =
    let a = tree_of c.deref.result.now in
    let b = tree_of c.deref-in-Choice.result.now in
    let sides : tree_of c.args.code.now ≡ Choice a b = search (rules, the_lemmas) in
    let first = c.in-Ok-find.found in
    let none : is_some first ≡ false = search rules in
    let found = c.in-Ok-find-2.found in
    subst (λ (code : Tree). found ≡ op_there code c.args.site) (sym sides)
    (c.in-Ok-find-2.ensures.there
    ∙ second-there a b c.args.site first c.in-Ok-find.ensures.there none)

pub find-returns-then-is_none-clause-path : goal.find-returns-then-is_none-clause-path
find-returns-then-is_none-clause-path t c =
    let site = c.args.site in
    let a = tree_of c.deref.result.now in
    let b = tree_of c.deref-in-Choice.result.now in
    let sides : tree_of c.args.code.now ≡ Choice a b = search (rules, the_lemmas) in
    let first = c.in-Ok-find.found in
    let second = c.in-Ok-find-2.found in
    let none : is_some first ≡ false = search rules in
    let other : is_some second ≡ false = search rules in
    let old = c.args.path.now.items in
    let count : c.len-before.result ≡ length old = search rules in
    let base : c.truncate.new.self.items ≡ old =
    c.truncate.ensures.items
    ∙ cut-back old c.find.new.path.items (path_where site a) true c.len-before.result count
    (c.in-Ok-find.ensures.path
    ∙ ap (λ (p : List Bool). p ++ path_where site a) c.in-Ok.ensures.items) in
    let again : c.truncate-then-is_none.new.self.items ≡ old =
    c.truncate-then-is_none.ensures.items
    ∙ cut-back old c.find-in-Choice.new.path.items (path_where site b) false c.len-before.result count
    (c.in-Ok-find-2.ensures.path ∙ ap (λ (p : List Bool). p ++ path_where site b)
    (c.in-Ok-push.ensures.items ∙ ap (λ (p : List Bool). p ++ false ∷ []) base)) in
    subst (λ (code : Tree). c.truncate-then-is_none.new.self.items ≡ old ++ path_where site code) (sym sides)
    (none-path a b site old c.truncate-then-is_none.new.self.items again
    (has-found a site first false c.in-Ok-find.ensures.there none)
    (has-found b site second false c.in-Ok-find-2.ensures.there other))

pub find-returns-else-is_none-clause-path : goal.find-returns-else-is_none-clause-path
find-returns-else-is_none-clause-path t c =
    let site = c.args.site in
    let a = tree_of c.deref.result.now in
    let b = tree_of c.deref-in-Choice.result.now in
    let sides : tree_of c.args.code.now ≡ Choice a b = search (rules, the_lemmas) in
    let first = c.in-Ok-find.found in
    let second = c.in-Ok-find-2.found in
    let none : is_some first ≡ false = search rules in
    let some : is_some second ≡ true = search rules in
    let old = c.args.path.now.items in
    let count : c.len-before.result ≡ length old = search rules in
    let base : c.truncate.new.self.items ≡ old =
    c.truncate.ensures.items
    ∙ cut-back old c.find.new.path.items (path_where site a) true c.len-before.result count
    (c.in-Ok-find.ensures.path
    ∙ ap (λ (p : List Bool). p ++ path_where site a) c.in-Ok.ensures.items) in
    subst (λ (code : Tree). c.find-in-Choice.new.path.items ≡ old ++ path_where site code) (sym sides)
    (second-path a b site old c.truncate.new.self.items c.push-in-Choice.new.self.items
    c.find-in-Choice.new.path.items base c.in-Ok-push.ensures.items c.in-Ok-find-2.ensures.path
    (has-found a site first false c.in-Ok-find.ensures.there none)
    (has-found b site second true c.in-Ok-find-2.ensures.there some))

pub find_among-returns-then-is_some-clause-there : goal.find_among-returns-then-is_some-clause-there
find_among-returns-then-is_some-clause-there t c =
    let at = c.loop-code in
    let site = c.args.site in
    let codes = c.args.codes.now in
    let a = tree_of c.code-item.result in
    let b = in_sequence (map tree_of (drop (at.code-index + 1) codes)) in
    let left = parts-turn codes at.code-index c.code-item.result c.loop-code-test.true c.code-item.is in
    let found = c.in-Ok-find.found in
    let some : is_some found ≡ true = search rules in
    first-there a b site found c.in-Ok-find.ensures.there some
    ∙ ap (λ (code : Tree). op_there code site) (sym left)
    ∙ at.invariant.there

pub find_among-returns-then-is_some-clause-path : goal.find_among-returns-then-is_some-clause-path
find_among-returns-then-is_some-clause-path t c =
    let at = c.loop-code in
    let site = c.args.site in
    let codes = c.args.codes.now in
    let whole = in_sequence (map tree_of codes) in
    let a = tree_of c.code-item.result in
    let b = in_sequence (map tree_of (drop (at.code-index + 1) codes)) in
    let left = parts-turn codes at.code-index c.code-item.result c.loop-code-test.true c.code-item.is in
    let found = c.in-Ok-find.found in
    let some : is_some found ≡ true = search rules in
    let has : has_site a site ≡ true = has-found a site found true c.in-Ok-find.ensures.there some in
    let all : has_site whole site ≡ true =
    has-found whole site found true
    (first-there a b site found c.in-Ok-find.ensures.there some
    ∙ ap (λ (code : Tree). op_there code site) (sym left) ∙ at.invariant.there) some in
    let both : has_site (Seq a b) site ≡ true =
    has-found (Seq a b) site found true (first-there a b site found c.in-Ok-find.ensures.there some) some in
    first-path a b site at.path.items c.push.new.self.items c.find.new.path.items c.in-Ok.ensures.items
    c.in-Ok-find.ensures.path has
    ∙ ap (λ (p : List Bool). at.path.items ++ p) (where-there (Seq a b) site both)
    ∙ ap (λ (code : Tree). at.path.items ++ path_to site code) (sym left)
    ∙ at.invariant.path
    ∙ ap (λ (p : List Bool). c.args.path.now.items ++ p) (sym (where-there whole site all))

pub find_among-loop-code-preserved : goal.find_among-loop-code-preserved
find_among-loop-code-preserved t c =
    let at = c.loop-code in
    let site = c.args.site in
    let codes = c.args.codes.now in
    let a = tree_of c.code-item.result in
    let b = in_sequence (map tree_of (drop (at.code-index + 1) codes)) in
    let left = parts-turn codes at.code-index c.code-item.result c.loop-code-test.true c.code-item.is in
    let found = c.in-Ok-find.found in
    let none : is_some found ≡ false = search rules in
    let has : has_site a site ≡ false = has-found a site found false c.in-Ok-find.ensures.there none in
    let here : c.len-here.result ≡ length at.path.items = search rules in
    let count : c.len-before.result ≡ length c.args.path.now.items = search rules in
    let base : c.truncate.new.self.items ≡ at.path.items =
    c.truncate.ensures.items
    ∙ cut-back at.path.items c.find.new.path.items (path_where site a) true c.len-here.result here
    (c.in-Ok-find.ensures.path ∙ ap (λ (p : List Bool). p ++ path_where site a) c.in-Ok.ensures.items) in
    let pushed : c.push-in-loop-code.new.self.items ≡ at.path.items ++ false ∷ [] =
    c.in-Ok-push.ensures.items ∙ ap (λ (p : List Bool). p ++ false ∷ []) base in
    record {
      there =
          second-there a b site found c.in-Ok-find.ensures.there none
          ∙ ap (λ (code : Tree). op_there code site) (sym left)
          ∙ at.invariant.there;
      path =
          ap (λ (p : List Bool). p ++ path_to site b) pushed
          ∙ path-on a b site at.path.items (path_to site (Seq a b)) has refl
          ∙ ap (λ (code : Tree). at.path.items ++ path_to site code) (sym left)
          ∙ at.invariant.path;
      start =
          ap (take c.len-before.result) pushed
          ∙ start-stays c.args.path.now.items at.path.items c.len-before.result false count at.invariant.start;
    }

pub find-returns-in-Seq-clause-there : goal.find-returns-in-Seq-clause-there
find-returns-in-Seq-clause-there t c =
    let is : tree_of c.args.code.now ≡ in_sequence (map tree_of c.as_slice.result.now) = search (rules, the_lemmas) in
    subst (λ (code : Tree). IfOk c.find_among.result (λ (there : Option CoreOp). there ≡ op_there code c.args.site))
    (sym is)
    c.find_among.ensures.there

pub find-returns-in-Seq-clause-path : goal.find-returns-in-Seq-clause-path
find-returns-in-Seq-clause-path t c =
    let is : tree_of c.args.code.now ≡ in_sequence (map tree_of c.as_slice.result.now) = search (rules, the_lemmas) in
    subst (λ (code : Tree).
    OnOk c.find_among.result (c.find_among.new.path.items ≡ c.args.path.now.items ++ path_where c.args.site code))
    (sym is)
    c.find_among.ensures.path

pub find-returns-in-Loop-clause-there : goal.find-returns-in-Loop-clause-there
find-returns-in-Loop-clause-there t c =
    let is : tree_of c.args.code.now ≡ Loop (tree_of c.deref-in-Loop.result.now) = search (rules, the_lemmas) in
    subst (λ (code : Tree). IfOk c.find-in-Loop.result
    (λ (there : Option CoreOp). there ≡ op_there code c.args.site)) (sym is)
    c.find-in-Loop.ensures.there

pub find-returns-in-Loop-clause-path : goal.find-returns-in-Loop-clause-path
find-returns-in-Loop-clause-path t c =
    let is : tree_of c.args.code.now ≡ Loop (tree_of c.deref-in-Loop.result.now) = search (rules, the_lemmas) in
    subst (λ (code : Tree).
    OnOk c.find-in-Loop.result (c.find-in-Loop.new.path.items ≡ c.args.path.now.items ++ path_where c.args.site
    code)) (sym is)
    c.find-in-Loop.ensures.path

pub find-returns-in-Sync-clause-there : goal.find-returns-in-Sync-clause-there
find-returns-in-Sync-clause-there t c =
    let lock : LockAt = record { place = c.in-Sync.field-0; kind = c.in-Sync.field-1 } in
    let is : tree_of c.args.code.now ≡ Sync lock (tree_of c.deref-in-Sync.result.now) =
    search (rules, the_lemmas) in
    subst (λ (code : Tree). IfOk c.find-in-Sync.result
    (λ (there : Option CoreOp). there ≡ op_there code c.args.site)) (sym is)
    c.find-in-Sync.ensures.there

pub find-returns-in-Sync-clause-path : goal.find-returns-in-Sync-clause-path
find-returns-in-Sync-clause-path t c =
    let lock : LockAt = record { place = c.in-Sync.field-0; kind = c.in-Sync.field-1 } in
    let is : tree_of c.args.code.now ≡ Sync lock (tree_of c.deref-in-Sync.result.now) =
    search (rules, the_lemmas) in
    subst (λ (code : Tree).
    OnOk c.find-in-Sync.result (c.find-in-Sync.new.path.items ≡ c.args.path.now.items ++ path_where c.args.site
    code)) (sym is)
    c.find-in-Sync.ensures.path

pub find-returns-then-eq-clause-there : goal.find-returns-then-eq-clause-there
find-returns-then-eq-clause-there t c =
    let op = c.in-Op.op in
    let is : tree_of c.args.code.now ≡ Op c.in-Op.at c.in-Op.field-1 op = search (rules, the_lemmas) in
    op-found c.in-Op.at c.in-Op.field-1 op c.args.site (sym c.eq.ensures ∙ c.if-eq.true)
    ∙ ap (λ (code : Tree). op_there code c.args.site) (sym is)

pub find-returns-then-eq-clause-path : goal.find-returns-then-eq-clause-path
find-returns-then-eq-clause-path t c =
    let is : tree_of c.args.code.now ≡ Op c.in-Op.at c.in-Op.field-1 c.in-Op.op = search (rules, the_lemmas) in
    op-path c.in-Op.at c.in-Op.field-1 c.in-Op.op c.args.site c.args.path.now.items
    ∙ ap (λ (code : Tree). c.args.path.now.items ++ path_where c.args.site code) (sym is)

pub find-returns-else-eq-clause-there : goal.find-returns-else-eq-clause-there
find-returns-else-eq-clause-there t c =
    let op = c.in-Op.op in
    let is : tree_of c.args.code.now ≡ Op c.in-Op.at c.in-Op.field-1 op = search (rules, the_lemmas) in
    op-missed c.in-Op.at c.in-Op.field-1 op c.args.site (sym c.eq.ensures ∙ c.if-eq.false)
    ∙ ap (λ (code : Tree). op_there code c.args.site) (sym is)

pub find-returns-else-eq-clause-path : goal.find-returns-else-eq-clause-path
find-returns-else-eq-clause-path t c =
    let is : tree_of c.args.code.now ≡ Op c.in-Op.at c.in-Op.field-1 c.in-Op.op = search (rules, the_lemmas) in
    op-path c.in-Op.at c.in-Op.field-1 c.in-Op.op c.args.site c.args.path.now.items
    ∙ ap (λ (code : Tree). c.args.path.now.items ++ path_where c.args.site code) (sym is)

pub find_among-returns-clause-there : goal.find_among-returns-clause-there
find_among-returns-clause-there t c =
    let at = c.loop-code in
    let over = at_drop_all (λ (cs : List Code). in_sequence (map tree_of cs)) c.args.codes.now at.code-index
    (omega (arith, c.loop-code-test.false)) in
    ap (λ (code : Tree). op_there code c.args.site) (sym over) ∙ at.invariant.there

pub find_among-returns-clause-path : goal.find_among-returns-clause-path
find_among-returns-clause-path t c =
    let at = c.loop-code in
    let site = c.args.site in
    let whole = in_sequence (map tree_of c.args.codes.now) in
    let over = at_drop_all (λ (cs : List Code). in_sequence (map tree_of cs)) c.args.codes.now at.code-index
    (omega (arith, c.loop-code-test.false)) in
    let none : None ≡ op_there whole site = ap (λ (code : Tree). op_there code site) (sym over) ∙ at.invariant.there in
    c.truncate-2.ensures.items
    ∙ none-path-whole whole site c.args.path.now.items (take c.len-before.result at.path.items) at.invariant.start
    (has-found whole site None false none refl)
