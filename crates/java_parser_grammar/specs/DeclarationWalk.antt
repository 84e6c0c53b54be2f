-- No public contract rests on this: a walk over the items of a file that cuts it into its declarations, or stops at the
-- first item that does not fit. It finds the declarations of each file, and what does not fit of other items
-- (proofs/WalkedFiles.antt, proofs/Misfits.antt).
use Rattle.std.specs.Prelude.{Bool, true, false, ◌&&◌, List, [], ◌∷◌, Option, Some, None, Result, Ok, Err}
use Rattle.std.specs.Prelude.{codes, if◌then◌else◌}
use Rattle.java_parser_grammar.specs.Tokens.{is_name, begins, begins_sign, begins_word}
use Rattle.java_parser_grammar.specs.Cuts.{with_cut}
use Rattle.java_parser_grammar.specs.Pieces.{Item}
use Rattle.java_parser_grammar.specs.Declarations.{is_type_modifier, is_type_word}

-- what was seen last
pub data Seen : Type 0 where
  -- all of a declaration, or nothing; whether a package and imports may follow
  Whole : (early imports : Bool) → Seen
  -- annotations and words of a type; whether a package may follow
  Modifiers : (early : Bool) → Seen
  -- of an annotation its `@`, a name, a point
  AtSign : (early : Bool) → Seen
  AnnotationName : (early : Bool) → Seen
  AnnotationPoint : (early : Bool) → Seen
  -- of a type `class`, `interface`, `enum` or `@ interface`, and its name or what stands behind it
  TypeWord : Seen
  TypeName : Seen
  -- `package`, `import` or what stands behind it
  Directive : Seen

-- what is seen with one more item behind annotations and words
abbrev pub modified : (early : Bool) → Item → Option Seen
modified early i =
    if begins is_type_modifier i then Some (Modifiers false)
    else (if begins is_type_word i then Some TypeWord
    else (if begins_sign (codes "@") i then Some (AtSign early)
    else (if early && begins_word (codes "package") i then Some Directive else None)))

-- what is seen with one more item, where it fits
abbrev pub seen_with : Seen → Item → Option Seen
seen_with (Whole early imports) i =
    if begins_sign (codes ";") i then Some (Whole early imports)
    else (if imports && begins_word (codes "import") i then Some Directive else modified early i)
seen_with (Modifiers early) i = modified early i
seen_with (AtSign early) i =
    if begins is_name i then Some (AnnotationName early)
    else (if begins_word (codes "interface") i then Some TypeWord else None)
seen_with (AnnotationName early) i =
    if begins_sign (codes ".") i then Some (AnnotationPoint early)
    else (if begins_sign (codes "(") i then Some (Modifiers early) else modified early i)
seen_with (AnnotationPoint early) i = if begins is_name i then Some (AnnotationName early) else None
seen_with TypeWord i = if begins is_name i then Some TypeName else None
seen_with TypeName i = if begins_sign (codes "{") i then Some (Whole false false) else Some TypeName
seen_with Directive i = if begins_sign (codes ";") i then Some (Whole false true) else Some Directive

abbrev pub is_whole : Seen → Bool
is_whole (Whole early imports) = true
is_whole _ = false

abbrev pub and_before : (cut : Bool) → Item → Result (List (List Item)) (List Item) → Result (List (List Item)) (List
    Item)
and_before cut i (Ok ds) = Ok (with_cut cut i ds)
and_before cut i (Err rest) = Err rest

-- the items of each declaration, or the items from the first on that does not fit
abbrev pub declarations : Seen → List Item → Result (List (List Item)) (List Item)
declarations seen [] = if is_whole seen then Ok [] else Err []
declarations seen (i ∷ is) =
    elim (seen_with seen i) [ None ↦ Err (i ∷ is) | (Some more) ↦ and_before (is_whole more) i (declarations more is) ]
