-- A contract of a public call rests on this: the form that the code answers.
use Rattle.std.specs.Prelude.{List, ◌++◌, Option, Some, None}
use Rattle.java_lexer.specs.declared.token.Token.{Token}
use Rattle.java_parser_grammar.specs.Pieces.{Piece}
use Rattle.java_parser_grammar.specs.Members.{Form, SkippedForm, MethodForm, FieldForm}
use Rattle.java_parser.specs.declared.forms.Form as code
use Rattle.java_parser.specs.declared.forms.Form.TheVariants as form

abbrev pub form_view : code.Form → Form
form_view form.Skipped = SkippedForm
form_view (form.Method front name parentheses) = MethodForm front.now name.now parentheses.now
form_view form.Field = FieldForm

-- what is found behind these tokens
abbrev pub behind_front : List Token → Option (List Token × Piece) → Option (List Token × Piece)
behind_front front None = None
behind_front front (Some h) = Some (front ++ h.0, h.1)
