use Rattle.std.proofs.Common.{◌≡◌, Some, ap, subst, sym, ◌∙◌}
use Rattle.std.specs.Prelude.{option_map}
use Rattle.access_paths.specs.declared.path.Root.{Root}
use Rattle.access_paths.specs.declared.path.Root.TheVariants.{Class, Some as SomeOf}
use Rattle.transfer_ties.specs.Partners.{class_in, root_in}
use Rattle.transfer_ties.proofs.Kept.{class_kept}
use Rattle.transfer_ties.proofs.staying.root_stays.Goals as goal

pub returns-in-Class : goal.returns-in-Class
returns-in-Class c = λ stays.
    subst (λ (r : Root). root_in c.args.ties.now r ≡ Some r) (sym c.in-Class.is)
    (ap (option_map Class)
    (class_kept c.class.result (class_in c.args.ties.now c.in-Class.class) c.in-Class.class c.class.ensures
    (sym c.is_class.ensures ∙ stays)))

pub returns-in-Some : goal.returns-in-Some
returns-in-Some c = λ stays.
    subst (λ (r : Root). root_in c.args.ties.now r ≡ Some r) (sym c.in-Some.is)
    (ap (option_map SomeOf)
    (class_kept c.class-in-Some.result (class_in c.args.ties.now c.in-Some.class) c.in-Some.class
    c.class-in-Some.ensures (sym c.is_class-in-Some.ensures ∙ stays)))
