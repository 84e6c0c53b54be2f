-- The compact text of a witness file is read as that file.
use Rattle.std.proofs.Common.{◌≡◌, ℕ, ◌^◌, ◌≤◌, ◌<◌, List, [], ◌∷◌, Option, None, Some, map, refl, ap, arith, ◌∙◌}
use Rattle.std.proofs.Common.{max, sym, append-nil}
use Rattle.std.specs.Option.{option_and_then, option_map}
use Rattle.std.specs.Prelude.{IsUtf8}
use Rattle.json.specs.Json.{Json, if_last, value}
use Rattle.json.specs.Lex.{tokens}
use Rattle.json.specs.Print.{print}
use Rattle.json.specs.Tree.{depth, items_depth, json_tokens, HasNumbers, ItemsHaveNumbers}
use Rattle.json.proofs.Printed.Decimals.{IsNumber-decimal}
use Rattle.json.proofs.Printed.Tokens.{tokens-print}
use Rattle.json.proofs.Printed.Trees.{ArePrintable-json_tokens, value-json_tokens}
use Rattle.serde_json.specs.Data.{item, string}
use Rattle.serde_json.specs.Read.{max_depth, of_items, of_json, read}
use Rattle.serde_json.specs.View.{items_of}
use Rattle.serde_json.specs.Written.{compact_text, items_outline, outline}
use Rattle.serde_json.proofs.Numbers.{number_of-decimal}
use Rattle.serde_json.proofs.Texts.{print-outline}
use Rattle.racer_base.specs.declared.limits.TheConstants.{MAX_WAY_STEPS}
use Rattle.core_ways.specs.declared.mark.Leg.{Leg as CodeLeg}
use Rattle.core_ways.specs.Marks.{leg_of}
use Rattle.core_semantics.specs.Legs.{Leg}
use Rattle.witness_text_files.specs.Answers.{IsFile, seen}
use Rattle.witness_text_files.specs.Files.{File}
use Rattle.witness_text_files.specs.Written.{data_of, leg_data}
use Rattle.witness_text_files.specs.declared.file.WitnessFile.{WitnessFile}
use Rattle.witness_text_files.proofs.ReadBack.{IsLeg, IsWithin, with_path, written-is-read}

-- ---- numbers

few : (n : ℕ) → n ≤ MAX_WAY_STEPS → n < 2 ^ 64
few n most = omega (arith, most)

few-thread : (n : ℕ) → n < 2 → n < 2 ^ 64
few-thread n most = omega (arith, most)

-- ---- texts of start paths

texts-read : (texts : List (List ℕ)) →
    of_items (items_outline (items_of (map string texts))) ≡ Some (items_of (map string texts))
texts-read [] = refl
texts-read (text ∷ texts) = ap (option_map (item (string text))) (texts-read texts)

texts-numbered : (texts : List (List ℕ)) → ItemsHaveNumbers (items_outline (items_of (map string texts)))
texts-numbered [] = tt
texts-numbered (text ∷ texts) = (tt, texts-numbered texts)

texts-flat : (texts : List (List ℕ)) → items_depth (items_outline (items_of (map string texts))) ≡ 0
texts-flat [] = refl
texts-flat (text ∷ texts) = ap (λ n. max 0 n) (texts-flat texts)

-- ---- legs

leg-read : (leg : Leg) → IsLeg leg → of_json (outline (leg_data leg)) ≡ Some (leg_data leg)
leg-read leg is =
    rw (
      number_of-decimal leg.steps (few leg.steps is.steps),
      number_of-decimal leg.thread (few-thread leg.thread is.thread),
    )
    refl

leg-numbered : (leg : Leg) → IsLeg leg → HasNumbers (outline (leg_data leg))
leg-numbered leg is = (
  IsNumber-decimal leg.steps (few leg.steps is.steps),
  (IsNumber-decimal leg.thread (few-thread leg.thread is.thread), (tt, tt)),
)

leg-flat : (leg : Leg) → depth (outline (leg_data leg)) ≡ 1
leg-flat leg = refl

-- ---- the file

whole-with : (f : File) → IsWithin f → (path : Option (List ℕ)) →
    of_json (outline (data_of (with_path f path))) ≡ Some (data_of (with_path f path))
whole-with f is None =
    rw (
      number_of-decimal 1 (omega arith),
      leg-read f.first is.first,
      leg-read f.second is.second,
      texts-read f.objects,
    )
    refl
whole-with f is (Some path) =
    rw (
      number_of-decimal 2 (omega arith),
      leg-read f.first is.first,
      leg-read f.second is.second,
      texts-read f.objects,
    )
    refl

numbered-with : (f : File) → IsWithin f → (path : Option (List ℕ)) → HasNumbers (outline (data_of (with_path f path)))
numbered-with f is None = (
  tt,
  (
    (tt, (tt, tt)),
    (
      (leg-numbered f.first is.first, (leg-numbered f.second is.second, tt)),
      (texts-numbered f.objects, (IsNumber-decimal 1 (omega arith), tt)),
    ),
  ),
)
numbered-with f is (Some path) = (
  tt,
  (
    (tt, (tt, tt)),
    (
      (leg-numbered f.first is.first, (leg-numbered f.second is.second, tt)),
      (texts-numbered f.objects, (tt, (IsNumber-decimal 2 (omega arith), tt))),
    ),
  ),
)

shallow-with : (f : File) (path : Option (List ℕ)) → depth (outline (data_of (with_path f path))) ≡ 3
shallow-with f None = rw (texts-flat f.objects) refl
shallow-with f (Some path) = rw (texts-flat f.objects) refl

-- what is printed of a tree is read as that tree
tree-read : (j : Json) → HasNumbers j → depth j ≤ max_depth →
    option_and_then (λ p. if_last p.0 p.1) (value max_depth (tokens (print (json_tokens j)))) ≡ Some j
tree-read j numbers shallow =
    ap (option_and_then (λ p. if_last p.0 p.1))
    (ap (value max_depth) (tokens-print (json_tokens j) (ArePrintable-json_tokens j numbers)
    ∙ sym (append-nil (json_tokens j)))
    ∙ value-json_tokens j max_depth [] shallow)

-- the text of a file within its limits is read as its value
pub text-read : (f : File) → IsWithin f → read (compact_text (data_of f)) ≡ Some (data_of f)
text-read f is =
    let three = shallow-with f f.path in
    let low : depth (outline (data_of f)) ≤ max_depth = omega (arith, three) in
    ap read (sym (print-outline (data_of f)))
    ∙ ap (option_and_then of_json) (tree-read (outline (data_of f)) (numbered-with f is f.path) low)
    ∙ whole-with f is f.path

leg-within : (leg : CodeLeg) → IsLeg (leg_of leg)
leg-within leg = record { thread = leg.one_of_two; turns = leg.few_turns; steps = leg.few_steps }

-- the type of a witness file keeps its limits
pub seen-within : (f : WitnessFile) → IsWithin (seen f)
seen-within f =
    record {
      first = leg-within f.first;
      second = leg-within f.second;
      threads = f.both_threads;
      objects = f.few_objects;
    }

pub file-read : (f : WitnessFile) → IsUtf8 (compact_text (data_of (seen f))) →
    IsFile (compact_text (data_of (seen f))) f
file-read f utf8 =
    let within = seen-within f in
    (data_of (seen f), (utf8, text-read (seen f) within), written-is-read (seen f) within)
