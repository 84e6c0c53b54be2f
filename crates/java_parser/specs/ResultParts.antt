-- No public contract rests on this: what tokens say of a result when all of them are looked at.
use Rattle.std.specs.Prelude.{◌≡◌, ℕ, ◌≤◌, Bool, true, false, List, [], length, Some, None}
use Rattle.racer_base.specs.declared.limits.TheConstants.{MAX_NESTING}
use Rattle.java_lexer.specs.declared.token.Token.{Token}
use Rattle.java_tree.specs.declared.words.Spelled.{Spelled}
use Rattle.java_tree.specs.Trees.{Ty, Method, Modifier, Result, NoResult, VoidResult, TypeResult}
use Rattle.java_tree.specs.Spelling.{result_onto}
use Rattle.java_tree.specs.FormedMethods.{FormedResult}
use Rattle.java_tree.specs.Nesting.{result_nesting}
use Rattle.java_tree.specs.KeptPlaces.{kept, ty_places}
use Rattle.java_tree.specs.View.{ty_of}
use Rattle.java_parser_grammar.specs.MethodReading.{modifiers_at}
use Rattle.java_tree.specs.declared.unit.HeadResult.{HeadResult}
use Rattle.java_tree.specs.declared.unit.HeadResult.TheVariants.{Void, Formed, Constructor, Unknown}
use Rattle.java_parser_grammar.specs.Tokens.{plain_all}

-- all of the tokens are this result
pub record SpellsResult (ts : List Spelled) (r : Result) : Type 0 where
  pub some : r ≡ NoResult → ⊥
  pub formed : FormedResult r
  pub nested : result_nesting r ≤ MAX_NESTING
  pub spelled : result_onto r [] ≡ ts

-- what all of the tokens say
abbrev pub SaysResult : List Token → HeadResult → Type 0
SaysResult ts Void = SpellsResult (plain_all ts) VoidResult
SaysResult ts (Formed t) = SpellsResult (plain_all ts) (TypeResult (ty_of t)) × (ty_places t ≡ kept ts)
SaysResult ts Constructor = ⊥
SaysResult ts Unknown = (r : Result) → SpellsResult (plain_all ts) r → ⊥

-- the same, of types alone
abbrev pub SaysType : List Token → HeadResult → Type 0
SaysType ts Void = ⊥
SaysType ts (Formed t) = SaysResult ts (Formed t)
SaysType ts Constructor = ⊥
SaysType ts Unknown = (t : Ty) → SpellsResult (plain_all ts) (TypeResult t) → ⊥

-- whether there is a result that all of the tokens are
abbrev pub IsAnyResult : List Token → Bool → Type 0
IsAnyResult ts true = (r : Result) × SpellsResult (plain_all ts) r
IsAnyResult ts false = (r : Result) → SpellsResult (plain_all ts) r → ⊥

-- a method without a result has the name of the class
abbrev pub IsOfClass : (class : List ℕ) → Method → Type 0
IsOfClass class m = m.result ≡ NoResult → m.name ≡ class

-- modifiers of a method and annotations are read in front, with these tokens behind them
abbrev pub HasModifiers : List Token → List Token → Type 0
HasModifiers ts rest =
    (ms : List Modifier) × (modifiers_at (length (plain_all ts)) (plain_all ts) ≡ Some (ms, plain_all rest))

abbrev pub HasNoModifiers : List Token → Type 0
HasNoModifiers ts = modifiers_at (length (plain_all ts)) (plain_all ts) ≡ None
