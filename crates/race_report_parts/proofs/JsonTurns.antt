-- Arrays that are put item by item, turn by turn of a loop.
use Rattle.std.proofs.Common.{◌≡◌, ℕ, Bool, true, false, List, [], ◌∷◌}
use Rattle.std.proofs.Common.{◌++◌, codes, map}
use Rattle.std.proofs.Common.{sym, ap, ◌∙◌, append_assoc, string_bytes}
use Rattle.std.specs.List.{flat_map}
use Rattle.serde_json.specs.Data.{Data, string}
use Rattle.serde_json.specs.View.{items_of}
use Rattle.serde_json.specs.Written.{comma_if, compact_text, items_text}
use Rattle.race_report_parts.specs.declared.written.Written.{Written}
use Rattle.race_report_parts.specs.Written.{Lasts, Puts}
use Rattle.race_report_parts.specs.Json.{values}
use Rattle.race_report_parts.specs.Pieces.{LeavesItems, PutsItems}

-- the bracket before all items
pub begins : (whole : List Data) (old new : Written) → Puts (codes "[") old new →
    LeavesItems [] whole false whole old new
begins whole old new bracket = λ h.
    let behind : List ℕ = items_text false (items_of whole) in
    ap (λ t. t ++ behind) (bracket.text h) ∙ append_assoc (string_bytes old.so_far) (codes "[") behind

-- the same behind what stands before the array
pub begins_behind : (before : List ℕ) (whole : List Data) (old mid new : Written) → Puts before old mid →
    Puts (codes "[") mid new → LeavesItems before whole false whole old new
begins_behind before whole old mid new put bracket = λ h.
    let behind : List ℕ = items_text false (items_of whole) in
    begins whole mid new bracket h
    ∙ ap (λ t. t ++ (codes "[" ++ behind)) (put.text (bracket.lasts h))
    ∙ append_assoc (string_bytes old.so_far) before (codes "[" ++ behind)

-- one text more
pub more_texts : {X : Type 0} (text : X → List ℕ) (before : List ℕ) (whole : List Data) (left rest : List X) (x : X)
    (later : Bool) (comma : List ℕ) (old mid new : Written) → left ≡ x ∷ rest → comma ≡ comma_if later →
    LeavesItems before whole later (map string (map text left)) old mid →
    Puts (comma ++ compact_text (string (text x))) mid new →
    LeavesItems before whole true (map string (map text rest)) old new
more_texts text before whole left rest x later comma old mid new is same leaves put = λ h.
    let so_far : List ℕ = string_bytes mid.so_far in
    let one : List ℕ = compact_text (string (text x)) in
    let behind : List ℕ = items_text true (items_of (map string (map text rest))) in
    ap (λ t. t ++ behind) (put.text h ∙ ap (λ t. so_far ++ (t ++ one)) same)
    ∙ append_assoc so_far (comma_if later ++ one) behind
    ∙ ap (λ t. so_far ++ t) (append_assoc (comma_if later) one behind)
    ∙ ap (λ xs. so_far ++ items_text later (items_of (map string (map text xs)))) (sym is)
    ∙ leaves (put.lasts h)

-- the items of one thing more
pub more_items : {X : Type 0} (items : X → List Data) (whole : List Data) (left rest : List X) (x : X)
    (later behind : Bool) (old mid new : Written) → left ≡ x ∷ rest →
    LeavesItems [] whole later (flat_map items left) old mid → PutsItems later behind (items x) mid new →
    LeavesItems [] whole behind (flat_map items rest) old new
more_items items whole left rest x later behind old mid new is leaves put = λ h.
    put.text h (flat_map items rest)
    ∙ ap (λ xs. string_bytes mid.so_far ++ items_text later (items_of (flat_map items xs))) (sym is)
    ∙ leaves (put.lasts h)

-- the bracket behind all items
pub ends : (before : List ℕ) (whole left : List Data) (later : Bool) (old mid new : Written) → left ≡ [] →
    Lasts old mid → LeavesItems before whole later left old mid → Puts (codes "]") mid new →
    Puts (before ++ compact_text (values whole)) old new
ends before whole left later old mid new none lasts leaves bracket =
    record {
      lasts = λ h. lasts (bracket.lasts h);
      text = λ h.
          bracket.text h
          ∙ ap (λ (ds : List Data). string_bytes mid.so_far ++ items_text later (items_of ds)) (sym none)
          ∙ leaves (bracket.lasts h);
    }
