-- The objects of a report as items of an array.
use Rattle.std.proofs.Common.{◌≡◌, ℕ, Bool, true, List, [], ◌∷◌, ◌++◌, Option, None, Some, IfSome, codes, option_map}
use Rattle.std.proofs.Common.{map, sym, ap, ◌∙◌, append_assoc, string_bytes}
use Rattle.serde_json.specs.Data.{Data, string, boolean, object, put, no_members}
use Rattle.serde_json.specs.View.{items_of}
use Rattle.serde_json.specs.Written.{comma_if, compact_text, items_text}
use Rattle.serde_json.proofs.OnLiterals.{serde_json_on_literals}
use Rattle.core_code.specs.Core.{Core, Method}
use Rattle.access_domain.specs.declared.summary.Summary.{Summary}
use Rattle.access_domain.specs.Findings.{Findings, summary_from}
use Rattle.core_ways.specs.Marks.{Said, Unnamed, Unstable, Unread, Long, Blocked, Confirmed}
use Rattle.race_report_parts.specs.declared.written.Written.{Written}
use Rattle.race_report_parts.specs.Marks.{mark_word}
use Rattle.race_report_parts.specs.Texts.{place_text, method_text, path_text, touch_text, value_text}
use Rattle.race_report_parts.specs.Told.{access_text, wobbly_texts, Side, Sides}
use Rattle.race_report_parts.specs.Written.{Puts}
use Rattle.race_report_parts.specs.Json.{texts, reason_values, found_values, side_members, mark_value, marked_values}
use Rattle.race_report_parts.specs.Json.{count, place_value}
use Rattle.race_report_parts.specs.Pieces.{PutsItems, reason_object, summary_object, detail_text, side_first, side_last}
use Rattle.race_report_parts.specs.Pieces.{warning_object}
use Rattle.race_report_parts.proofs.WitnessPieces.{witness_told, word_after}

-- these items are one, whose text is this
abbrev pub IsItem : List Data → List ℕ → Type 0
IsItem items text = (later : Bool) (rest : List Data) →
    items_text later (items_of (items ++ rest)) ≡ comma_if later ++ (text ++ items_text true (items_of rest))

-- an item was put, and before it a comma, where a value stands there
pub one_item : (items : List Data) (text : List ℕ) (later : Bool) (old mid new : Written) → IsItem items text →
    Puts (comma_if later) old mid → Puts text mid new → PutsItems later true items old new
one_item items text later old mid new is comma put =
    record {
      lasts = λ h. comma.lasts (put.lasts h);
      text = λ h rest.
          let before : List ℕ = string_bytes old.so_far in
          let behind : List ℕ = items_text true (items_of rest) in
          ap (λ t. t ++ behind) (put.text h ∙ ap (λ t. t ++ text) (comma.text (put.lasts h)))
          ∙ append_assoc (before ++ comma_if later) text behind
          ∙ append_assoc before (comma_if later) (text ++ behind)
          ∙ ap (λ t. before ++ t) (sym (is later rest));
    }

-- the same pieces, each name with its value

members_4 : (a b c d e f g : List ℕ) → a ++ b ++ c ++ d ++ e ++ f ++ g ≡ (a ++ b) ++ (c ++ d) ++ (e ++ f) ++ g
members_4 a b c d e f g = simp append_assoc

members_5 : (a b c d e f g h i : List ℕ) →
    a ++ b ++ c ++ d ++ e ++ f ++ g ++ h ++ i ≡ (a ++ b) ++ (c ++ d) ++ (e ++ f) ++ (g ++ h) ++ i
members_5 a b c d e f g h i = simp append_assoc

word_after_two : (a b c d e f g h i : List ℕ) →
    a ++ b ++ c ++ d ++ e ++ f ++ d ++ g ++ h ++ i ≡ a ++ ((b ++ c ++ d) ++ (e ++ f ++ d)) ++ (g ++ h) ++ i
word_after_two a b c d e f g h i = simp append_assoc

sides_apart : (a b c d e f g h i j k l m : List ℕ) →
    a ++ b ++ c ++ d ++ e ++ f ++ g ++ h ++ i ++ j ++ k ++ l ++ m ≡
    ((a ++ b) ++ (c ++ d) ++ (e ++ f) ++ (g ++ h)) ++ ((i ++ j) ++ (k ++ l)) ++ m
sides_apart a b c d e f g h i j k l m = simp append_assoc

sides_around : (a b c d e f g h s t i j k l u v m : List ℕ) →
    a ++ b ++ c ++ d ++ e ++ f ++ g ++ h ++ s ++ t ++ i ++ j ++ k ++ l ++ u ++ v ++ m ≡
    ((a ++ b) ++ (c ++ d) ++ (e ++ f) ++ (g ++ h)) ++ s ++ t ++ ((i ++ j) ++ (k ++ l)) ++ u ++ v ++ m
sides_around a b c d e f g h s t i j k l u v m = simp append_assoc

reason_pieces : (m p r : Data) →
    compact_text (object (put (codes "method") m (put (codes "place") p (put (codes "reason") r no_members)))) ≡
    codes "{\"method\":" ++ compact_text m ++ codes ",\"place\":" ++ compact_text p
    ++ codes ",\"reason\":" ++ compact_text r ++ codes "}"
unfolding serde_json_on_literals
reason_pieces m p r = simp append_assoc

reason_told : (m p r : Data) →
    compact_text (object (put (codes "method") m (put (codes "place") p (put (codes "reason") r no_members)))) ≡
    (codes "{\"method\":" ++ compact_text m) ++ (codes ",\"place\":" ++ compact_text p)
    ++ (codes ",\"reason\":" ++ compact_text r) ++ codes "}"
reason_told m p r =
    reason_pieces m p r
    ∙ members_4 (codes "{\"method\":") (compact_text m) (codes ",\"place\":") (compact_text p) (codes ",\"reason\":")
    (compact_text r) (codes "}")

pub reason_item : (core : Core) (method : Method) (reason : List ℕ) →
    IsItem (reason_values core method (Some reason)) (reason_object core method reason)
reason_item core method reason = λ later rest.
    ap (λ t. comma_if later ++ (t ++ items_text true (items_of rest)))
    (reason_told (string (method_text core method)) (place_value core method.place) (string reason))

summary_pieces : (a m r w : Data) →
    compact_text (object (put (codes "accesses") a (put (codes "method") m (put (codes "result") r
    (put (codes "wobbly") w no_members))))) ≡
    codes "{\"accesses\":" ++ compact_text a ++ codes ",\"method\":" ++ compact_text m
    ++ codes ",\"result\":" ++ compact_text r ++ codes ",\"wobbly\":" ++ compact_text w ++ codes "}"
unfolding serde_json_on_literals
summary_pieces a m r w = simp append_assoc

summary_told : (a m r w : Data) →
    compact_text (object (put (codes "accesses") a (put (codes "method") m (put (codes "result") r
    (put (codes "wobbly") w no_members))))) ≡
    (codes "{\"accesses\":" ++ compact_text a) ++ (codes ",\"method\":" ++ compact_text m)
    ++ (codes ",\"result\":" ++ compact_text r) ++ (codes ",\"wobbly\":" ++ compact_text w) ++ codes "}"
summary_told a m r w =
    summary_pieces a m r w
    ∙ members_5 (codes "{\"accesses\":") (compact_text a) (codes ",\"method\":") (compact_text m)
    (codes ",\"result\":") (compact_text r) (codes ",\"wobbly\":") (compact_text w) (codes "}")

pub summary_item : (core : Core) (e : ℕ × Method) (found : Option Findings) (summary : Summary)
    (wobbly : List (List ℕ)) → option_map summary_from found ≡ Some summary →
    IfSome found (λ f. wobbly ≡ wobbly_texts core f) →
    IsItem (found_values core e found) (summary_object core e summary.accesses wobbly summary.result)
summary_item core e None summary wobbly held are = cc
summary_item core e (Some f) summary wobbly held are = λ later rest.
    let same : summary_from f ≡ summary = cc in
    ap (λ t. comma_if later ++ (t ++ items_text true (items_of rest)))
    (summary_told (texts (map (access_text core (record { 0 = e.0 })) f.records)) (string (method_text core e.1))
    (string (value_text core f.result)) (texts (wobbly_texts core f))
    ∙ ap (λ (w : List (List ℕ)). summary_object core e f.records w f.result) (sym are)
    ∙ ap (λ (s : Summary). summary_object core e s.accesses wobbly s.result) same)

word_pieces : (w : Data) → compact_text (object (put (codes "word") w no_members)) ≡
    codes "{" ++ [] ++ (codes "\"word\":" ++ compact_text w) ++ codes "}"
unfolding serde_json_on_literals
word_pieces w = simp append_assoc

path_pieces : (p w : Data) → compact_text (object (put (codes "path") p (put (codes "word") w no_members))) ≡
    codes "{" ++ codes "\"path\":" ++ compact_text p ++ codes "," ++ codes "\"word\":" ++ compact_text w ++ codes "}"
unfolding serde_json_on_literals
path_pieces p w = simp append_assoc

place_pieces : (p w : Data) → compact_text (object (put (codes "place") p (put (codes "word") w no_members))) ≡
    codes "{" ++ codes "\"place\":" ++ compact_text p ++ codes "," ++ codes "\"word\":" ++ compact_text w ++ codes "}"
unfolding serde_json_on_literals
place_pieces p w = simp append_assoc

steps_pieces : (n w : Data) → compact_text (object (put (codes "steps") n (put (codes "word") w no_members))) ≡
    codes "{" ++ codes "\"steps\":" ++ compact_text n ++ codes "," ++ codes "\"word\":" ++ compact_text w ++ codes "}"
unfolding serde_json_on_literals
steps_pieces n w = simp append_assoc

blocked_pieces : (p n w : Data) →
    compact_text (object (put (codes "place") p (put (codes "thread") n (put (codes "word") w no_members)))) ≡
    codes "{" ++ codes "\"place\":" ++ compact_text p ++ codes "," ++ codes "\"thread\":" ++ compact_text n
    ++ codes "," ++ codes "\"word\":" ++ compact_text w ++ codes "}"
unfolding serde_json_on_literals
blocked_pieces p n w = simp append_assoc

-- the object of a mark
abbrev mark_object : Core → Sides → Said → List ℕ
mark_object core sides said =
    codes "{" ++ detail_text core sides said ++ (codes "\"word\":" ++ compact_text (string (mark_word said)))
    ++ codes "}"

mark_told : (core : Core) (sides : Sides) (said : Said) →
    compact_text (mark_value core sides said) ≡ mark_object core sides said
mark_told core sides Unnamed = word_pieces (string (mark_word Unnamed))
mark_told core sides (Unstable before) =
    let word : Data = string (mark_word (Unstable before)) in
    path_pieces (string (path_text core before)) word
    ∙ word_after (codes "{") (codes "\"path\":") (compact_text (string (path_text core before))) (codes ",")
    (codes "\"word\":") (compact_text word) (codes "}")
mark_told core sides (Unread at) =
    let word : Data = string (mark_word (Unread at)) in
    place_pieces (place_value core at) word
    ∙ word_after (codes "{") (codes "\"place\":") (compact_text (place_value core at)) (codes ",")
    (codes "\"word\":") (compact_text word) (codes "}")
mark_told core sides (Long steps) =
    let word : Data = string (mark_word (Long steps)) in
    steps_pieces (count steps) word
    ∙ word_after (codes "{") (codes "\"steps\":") (compact_text (count steps)) (codes ",")
    (codes "\"word\":") (compact_text word) (codes "}")
mark_told core sides (Blocked thread at) =
    let word : Data = string (mark_word (Blocked thread at)) in
    blocked_pieces (place_value core at) (count thread) word
    ∙ word_after_two (codes "{") (codes "\"place\":") (compact_text (place_value core at)) (codes ",")
    (codes "\"thread\":") (compact_text (count thread)) (codes "\"word\":") (compact_text word) (codes "}")
mark_told core sides (Confirmed objects []) = word_pieces (string (codes "confirmed"))
mark_told core sides (Confirmed objects (leg ∷ [])) = word_pieces (string (codes "confirmed"))
mark_told core sides (Confirmed objects (first ∷ second ∷ [])) =
    witness_told core sides objects first second (string (codes "confirmed"))
mark_told core sides (Confirmed objects (first ∷ second ∷ third ∷ legs)) = word_pieces (string (codes "confirmed"))

partner_pieces : (a k l n m p : Data) →
    compact_text (object (put (codes "at") a (put (codes "kind") k (put (codes "locked") l (put (codes "main") n
    (put (codes "method") m (put (codes "path") p no_members))))))) ≡
    codes "{\"at\":" ++ compact_text a ++ codes ",\"kind\":" ++ compact_text k ++ codes ",\"locked\":"
    ++ compact_text l ++ codes ",\"main\":" ++ compact_text n ++ codes ",\"method\":" ++ compact_text m
    ++ codes ",\"path\":" ++ compact_text p ++ codes "}"
unfolding serde_json_on_literals
partner_pieces a k l n m p = simp append_assoc

partner_told : (core : Core) (side : Side) → compact_text (object (side_members core side no_members)) ≡
    side_first core side ++ side_last core side ++ codes "}"
partner_told core side =
    let at : Data = texts (map (place_text core) side.places) in
    let kind : Data = string (touch_text side.access.kind) in
    let locked : Data = boolean side.access.locked in
    let main : Data = boolean side.access.main in
    let method : Data = string (method_text core side.method) in
    let path : Data = string (path_text core side.access.path) in
    partner_pieces at kind locked main method path
    ∙ sides_apart (codes "{\"at\":") (compact_text at) (codes ",\"kind\":") (compact_text kind)
    (codes ",\"locked\":") (compact_text locked) (codes ",\"main\":") (compact_text main) (codes ",\"method\":")
    (compact_text method) (codes ",\"path\":") (compact_text path) (codes "}")

warning_pieces : (a k l n m p mark partner : Data) →
    compact_text (object (put (codes "at") a (put (codes "kind") k (put (codes "locked") l (put (codes "main") n
    (put (codes "method") m (put (codes "path") p (put (codes "mark") mark
    (put (codes "with") partner no_members))))))))) ≡
    codes "{\"at\":" ++ compact_text a ++ codes ",\"kind\":" ++ compact_text k ++ codes ",\"locked\":"
    ++ compact_text l ++ codes ",\"main\":" ++ compact_text n ++ codes ",\"mark\":" ++ compact_text mark
    ++ codes ",\"method\":" ++ compact_text m ++ codes ",\"path\":" ++ compact_text p
    ++ codes ",\"with\":" ++ compact_text partner ++ codes "}"
unfolding serde_json_on_literals
warning_pieces a k l n m p mark partner = simp append_assoc

warning_grouped : (first last detail word first_b last_b : List ℕ) →
    first ++ codes ",\"mark\":" ++ (codes "{" ++ detail ++ word ++ codes "}") ++ last ++ codes ",\"with\":"
    ++ (first_b ++ last_b ++ codes "}") ++ codes "}" ≡
    first ++ (codes ",\"mark\":{" ++ detail ++ word ++ codes "}") ++ last
    ++ (codes ",\"with\":" ++ first_b ++ last_b ++ codes "}}")
warning_grouped first last detail word first_b last_b = simp append_assoc

warning_told : (core : Core) (mark : Said) (sides : Sides) →
    compact_text (object (side_members core sides.first (put (codes "mark") (mark_value core sides mark)
    (put (codes "with") (object (side_members core sides.partner no_members)) no_members)))) ≡
    warning_object core mark sides
warning_told core mark sides =
    let side : Side = sides.first in
    let at : Data = texts (map (place_text core) side.places) in
    let kind : Data = string (touch_text side.access.kind) in
    let locked : Data = boolean side.access.locked in
    let main : Data = boolean side.access.main in
    let method : Data = string (method_text core side.method) in
    let path : Data = string (path_text core side.access.path) in
    let partner : Data = object (side_members core sides.partner no_members) in
    warning_pieces at kind locked main method path (mark_value core sides mark) partner
    ∙ sides_around (codes "{\"at\":") (compact_text at) (codes ",\"kind\":") (compact_text kind)
    (codes ",\"locked\":") (compact_text locked) (codes ",\"main\":") (compact_text main) (codes ",\"mark\":")
    (compact_text (mark_value core sides mark)) (codes ",\"method\":") (compact_text method) (codes ",\"path\":")
    (compact_text path) (codes ",\"with\":") (compact_text partner) (codes "}")
    ∙ ap (λ t. side_first core side ++ codes ",\"mark\":" ++ t ++ side_last core side ++ codes ",\"with\":"
    ++ compact_text (object (side_members core sides.partner no_members)) ++ codes "}") (mark_told core sides mark)
    ∙ ap (λ t. side_first core side ++ codes ",\"mark\":" ++ mark_object core sides mark ++ side_last core side
    ++ codes ",\"with\":" ++ t ++ codes "}") (partner_told core sides.partner)
    ∙ warning_grouped (side_first core side) (side_last core side) (detail_text core sides mark)
    (codes "\"word\":" ++ compact_text (string (mark_word mark))) (side_first core sides.partner)
    (side_last core sides.partner)

pub marked_item : (core : Core) (mark : Said) (sides : Sides) →
    IsItem (marked_values core mark (Some sides)) (warning_object core mark sides)
marked_item core mark sides = λ later rest.
    ap (λ t. comma_if later ++ (t ++ items_text true (items_of rest))) (warning_told core mark sides)
