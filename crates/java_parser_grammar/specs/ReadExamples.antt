-- A contract of a public call rests on this: worked readings of statements, from tokens as a reader writes them.
use Rattle.std.specs.Prelude.{◌≡◌, ℕ, List, [], ◌∷◌, Option, Some, None, codes, true, false}
use Rattle.java_tree.specs.declared.words.Spelled.{Spelled}
use Rattle.java_tree.specs.Trees.{Stmt, no_stmt, Ty, Method, TypeResult}
use Rattle.java_tree.specs.FormedModifiers.{Each}
use Rattle.java_tree.specs.Examples.{tokens_of}
use Rattle.java_parser_grammar.specs.Taking.{match_option}
use Rattle.java_parser_grammar.specs.JavaReaders.{method_readers}
use Rattle.java_parser_grammar.specs.StatementReading.{stmt_at}
use Rattle.java_parser_grammar.specs.MethodReading.{method_at}

-- what was read, where nothing is left
abbrev pub alone : Stmt × List Spelled → Option Stmt
alone (s, []) = Some s
alone (s, t ∷ ts) = None

-- the statement that a line is read as
abbrev pub read : List ℕ → Option Stmt
read text = match_option (stmt_at method_readers 8 (tokens_of text)) None alone

-- the method that a line is read as
abbrev pub read_method : List ℕ → Option Method
read_method text = method_at method_readers 8 (tokens_of text)

-- each line is read as the method beside it, or as none
abbrev pub AreMethods : List (List ℕ × Option Method) → Type 0
AreMethods rows = Each (λ (row : List ℕ × Option Method). read_method row.0 ≡ row.1) rows

-- `<T extends U> V f(V ... x) [ ].. { }`, with as many `[ ]`
abbrev pub takes_any : List ℕ → Ty → Ty → ℕ → Method
takes_any name bound kind arrays =
    record {
      modifiers = [];
      type_parameters = Some (record {
        items = record { annotations = []; name = name; bounds = bound ∷ [] } ∷ [];
        glued = false;
        modifiers = [];
      });
      result = TypeResult kind;
      name = codes "f";
      parameters = record { modifiers = []; kind = kind; any_number = true; name = codes "x"; arrays = 0 } ∷ [];
      arrays = arrays;
      throws = [];
      body = no_stmt;
    }

-- each line is read as the statement beside it, or as none
abbrev pub AreRead : List (List ℕ × Option Stmt) → Type 0
AreRead rows = Each (λ (row : List ℕ × Option Stmt). read row.0 ≡ row.1) rows
