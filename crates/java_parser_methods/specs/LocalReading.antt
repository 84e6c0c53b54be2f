-- No public contract rests on this: reading parts of declarations by themselves.
use Rattle.std.specs.Prelude.{ℕ, List, Option, Some, None, length, codes}
use Rattle.java_tree.specs.Trees.{Ty, Init, Modifier, Variable, Locals}
use Rattle.java_parser_grammar.specs.BalancedReading.{Reading}
use Rattle.java_parser_grammar.specs.Readers.{Readers}
use Rattle.java_parser_grammar.specs.StatementReading.{variables_at}
use Rattle.java_parser_grammar.specs.Taking.{◌>>=◌, match_option, after_sign, after_name}
use Rattle.java_parser_grammar.specs.TypeReading.{brackets_at}
use Rattle.java_parser_methods.specs.declared.locals.DeclaredName.{DeclaredName}

-- a name, and the number of the `[ ]` behind it
abbrev pub declared_name_at : Reading (List ℕ × ℕ)
declared_name_at ts = after_name ts >>= λ x. let m = brackets_at (length x.1) x.1 in Some ((x.0, m.0), m.1)

abbrev pub declared_of : DeclaredName → List ℕ × ℕ
declared_of d = (d.name.text, d.arrays)

-- a variable of this name
abbrev pub variable_with : List ℕ × ℕ → Option Init → Variable
variable_with x i = record { name = x.0; arrays = x.1; initialiser = i }

-- the variables of a declaration behind these modifiers and this type
abbrev pub locals_with : List Modifier × Ty → List Variable → Locals
locals_with front vs = record { modifiers = front.0; kind = front.1; variables = vs }

abbrev pub variables_with : Readers → ℕ → List Modifier × Ty → Reading Locals
variables_with readers n front ts = variables_at readers n front.0 front.1 ts

-- a variable behind its name
abbrev pub variable_from : Readers → ℕ → List ℕ × ℕ → Reading Variable
variable_from readers n x ts = match_option (after_sign (codes "=") ts) (Some (variable_with x None, ts)) (λ r. do
  i ← readers.init n r
  Some (variable_with x (Some i.0), i.1))
