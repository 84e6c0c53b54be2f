-- The code of calls is that before the arguments, these, and what comes behind them.
use Rattle.std.proofs.Common.{◌≡◌, ℕ, suc, List, [], ◌∷◌, ◌++◌, Option, Some, None, refl, append_assoc, length, ap}
use Rattle.std.specs.Prelude.{option_map}
use Rattle.racer_base.specs.declared.ids.ClassId.{ClassId}
use Rattle.racer_base.specs.declared.ids.MethodId.{MethodId}
use Rattle.racer_base.specs.declared.ids.Kind.{Kind}
use Rattle.racer_base.specs.declared.ids.Kind.TheVariants.{Plain, Declared, Other}
use Rattle.racer_base.specs.declared.ids.Place.{Place}
use Rattle.core_lowering_rules.specs.Trees.{Expr, Init, pack_exprs, pack_inits, count_exprs, count_inits}
use Rattle.core_lowering_rules.specs.Context.{Context, Code}
use Rattle.core_lowering_rules.specs.Calls.{Callee, Missing, OfClass, OfObject, Passing, called, called_on_value}
use Rattle.core_lowering_rules.specs.Calls.{made_by}
use Rattle.core_lowering_rules.specs.Calls.{made, constructor_in}
use Rattle.core_lowering_expressions.specs.Parts.{passed_kinds, call_front, call_end, value_call_front, value_call_end}
use Rattle.core_lowering_expressions.specs.Parts.{maker_of, made_front, made_kinds, made_end}

pub called-parts : (context : Context) (place : Place) (n : ℕ) (arguments : Passing) (m : Callee) →
    called context place n arguments m
    ≡ call_front context m ++ (arguments (passed_kinds context m n) ++ call_end context place n m)
called-parts context place n arguments Missing = refl
called-parts context place n arguments (OfClass m) = refl
called-parts context place n arguments (OfObject m) = simp append_assoc

pub value-called-parts : (context : Context) (place : Place) (e : Code) (n : ℕ) (arguments : Passing) (m : Callee) →
    called_on_value context place e n arguments m
    ≡ e ++ (value_call_front context m ++ (arguments (passed_kinds context m n) ++ value_call_end context place n m))
value-called-parts context place e n arguments Missing = simp append_assoc
value-called-parts context place e n arguments (OfClass m) = simp append_assoc
value-called-parts context place e n arguments (OfObject m) = simp append_assoc

made-by-parts : (context : Context) (place : Place) (c : ClassId) (n : ℕ) (arguments : Passing) (o : Option MethodId) →
    made_by context place c n arguments o
    ≡ made_front place (option_map (λ m. (c, m)) o)
    ++ (arguments (made_kinds context (option_map (λ m. (c, m)) o) n)
    ++ made_end context place n (option_map (λ m. (c, m)) o))
made-by-parts context place c n arguments None = refl
made-by-parts context place c n arguments (Some m) = simp append_assoc

pub made-parts : (context : Context) (place : Place) (k : Kind) (n : ℕ) (arguments : Passing) →
    made context place k n arguments
    ≡ made_front place (maker_of context k n)
    ++ (arguments (made_kinds context (maker_of context k n) n) ++ made_end context place n (maker_of context k n))
made-parts context place (Declared c) n arguments =
    made-by-parts context place c n arguments (constructor_in context c n)
made-parts context place Plain n arguments = refl
made-parts context place Other n arguments = refl

pub count-packed : (es : List Expr) → count_exprs (pack_exprs es) ≡ length es
count-packed [] = refl
count-packed (e ∷ es) = ap suc (count-packed es)

pub count-packed-inits : (is : List Init) → count_inits (pack_inits is) ≡ length is
count-packed-inits [] = refl
count-packed-inits (i ∷ is) = ap suc (count-packed-inits is)
