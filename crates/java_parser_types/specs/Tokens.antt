-- A contract of a public call rests on this: tokens without their places.
use Rattle.java_lexer.specs.declared.token.Token.{Token}
use Rattle.java_tree.specs.declared.words.Spelled.{Spelled}

abbrev pub spelled : Token → Spelled
spelled t = record { kind = t.kind; text = t.text; glued = t.glued }
