-- A command with more arguments.
use Rattle.std.proofs.Common.{◌≡◌, ℕ, ◌+◌, ◌<◌, Bool, false, List, [], ◌∷◌, ◌++◌, map, fold, length, get_or, drop, refl}
use Rattle.std.proofs.Common.{sym, ap, ◌∙◌}
use Rattle.std.proofs.lemmas.List.{at_drop_more, append_assoc}
use Rattle.clap.specs.Walk.{Rule, rule_of}
use Rattle.std.specs.Prelude.{Some}
use Rattle.std.specs.Borrow.{Bor}
use Rattle.clap.specs.Simple.{App, app_of, new_rule, with_rule}
use Rattle.clap.specs.declared.builder.action.ArgAction.{ArgAction}
use Rattle.clap.specs.Built.{AddsArg, AddsInTurn}
use Rattle.clap.specs.declared.builder.arg.Arg.{Arg}
use Rattle.clap.specs.declared.builder.command.Command.{Command}
use Rattle.racer_words.specs.Command.{rules_of, local, named_rule}
use Rattle.racer_words.specs.Uses.{Word}

pub all_added : (arguments : List Arg) (rules : List Rule) (old new : Command) → AddsInTurn AddsArg old arguments new →
    rules_of arguments ≡ map local rules → app_of new ≡ fold with_rule (app_of old) rules
all_added [] [] old new h e = sym (ap app_of h)
all_added [] (r ∷ rs) old new h e = absurd (cc e)
all_added (x ∷ xs) [] old new h e = absurd (cc e)
all_added (x ∷ xs) (r ∷ rs) old new h e =
    let first : (rule_of x, x.global) ≡ local r = cc e in
    let rest : rules_of xs ≡ map local rs = cc e in
    all_added xs rs h.0 new h.2 rest
    ∙ ap (λ (a : App). fold with_rule a rs)
    (h.1.shape (ap (λ p. p.1) first) ∙ ap (λ p. with_rule (app_of old) p.0) first)

-- one more argument, of this rule
pub rules-push : (arguments : List Arg) (x : Arg) (rule : Rule) → (rule_of x ≡ rule) × (x.global ≡ false) →
    rules_of (arguments ++ x ∷ []) ≡ rules_of arguments ++ local rule ∷ []
rules-push [] x rule h = ap (λ (r : Rule). (r, x.global) ∷ []) h.0 ∙ ap (λ b. (rule, b) ∷ []) h.1
rules-push (y ∷ ys) x rule h = ap (λ rs. (rule_of y, y.global) ∷ rs) (rules-push ys x rule h)

-- an argument that got a name and then an action
pub named_is : (new with_long whole : Arg) (name : Bor Word) (action : ArgAction) → rule_of new ≡ new_rule name.now →
    new.global ≡ false → with_long ≡ record new { long = Some name } →
    whole ≡ record with_long { action = Some action } →
    (rule_of whole ≡ named_rule name.now action) × (whole.global ≡ false)
named_is new with_long whole name action rule alone is_named is_whole = (
  ap rule_of is_whole
      ∙ ap (λ (a : Arg). record (rule_of a) { action = Some action }) is_named
      ∙ ap (λ (r : Rule). record r { long = Some name.now; action = Some action }) rule,
  ap (λ (a : Arg). a.global) is_whole ∙ ap (λ (a : Arg). a.global) is_named ∙ alone,
)

-- the rules of options or flags of these names
abbrev pub named_rules : ArgAction → List (Bor Word) → List (Rule × Bool)
named_rules action names = map (λ (name : Bor Word). local (named_rule name.now action)) names

-- one more of them is put
pub named_turn : (action : ArgAction) (names : List (Bor Word)) (i : ℕ) (d : Bor Word) (made more : List Arg)
    (x : Arg) → i < length names →
    (rule_of x ≡ named_rule (get_or names i d).now action) × (x.global ≡ false) → more ≡ made ++ x ∷ [] →
    rules_of more ++ named_rules action (drop (i + 1) names) ≡ rules_of made ++ named_rules action (drop i names)
named_turn action names i d made more x within is gives =
    let rule = named_rule (get_or names i d).now action in
    let rest = named_rules action (drop (i + 1) names) in
    ap (λ rules. rules ++ rest) (ap rules_of gives ∙ rules-push made x rule is)
    ∙ append_assoc (rules_of made) (local rule ∷ []) rest
    ∙ sym (at_drop_more (λ left. rules_of made ++ named_rules action left) names i d within)

-- four at once and then five are one after another
pub one_by_one : {A : Type 0} (rules : List A) (a b c d v w x y z : A) →
    (rules ++ a ∷ b ∷ c ∷ d ∷ []) ++ v ∷ w ∷ x ∷ y ∷ z ∷ []
    ≡ ((((((((rules ++ a ∷ []) ++ b ∷ []) ++ c ∷ []) ++ d ∷ []) ++ v ∷ []) ++ w ∷ []) ++ x ∷ []) ++ y ∷ []) ++ z ∷ []
one_by_one [] a b c d v w x y z = refl
one_by_one (r ∷ rules) a b c d v w x y z = ap (λ more. r ∷ more) (one_by_one rules a b c d v w x y z)
