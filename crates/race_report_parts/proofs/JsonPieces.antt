-- The pieces of the text of a report's object.
use Rattle.std.proofs.Common.{◌≡◌, ℕ, Bool, List, [], ◌∷◌, ◌++◌, codes, refl, sym, ap, ◌∙◌, append_assoc, true, lit<}
use Rattle.std.proofs.Common.{map}
use Rattle.std.proofs.Common.{length, string_bytes}
use Rattle.std.specs.List.{flat_map, enumerate_from}
use Rattle.std.specs.Fmt.{decimal}
use Rattle.std.proofs.lemmas.Fmt.{decimal_digit}
use Rattle.serde_json.specs.Data.{Data, string, object, Members, member, no_members}
use Rattle.serde_json.specs.Written.{compact_text, members_text}
use Rattle.serde_json.proofs.OnLiterals.{serde_json_on_literals}
use Rattle.racer_base.specs.declared.ids.Place.{Place}
use Rattle.core_code.specs.Core.{Core}
use Rattle.race_pairs.specs.declared.warning.Warning.{Warning}
use Rattle.race_pairs.specs.Warnings.{warnings}
use Rattle.race_report_parts.specs.declared.written.Written.{Written}
use Rattle.race_report_parts.specs.Texts.{place_text}
use Rattle.race_report_parts.specs.Written.{Puts}
use Rattle.race_report_parts.specs.Json.{report_value, values, texts, count, with_summaries, not_analysed_values}
use Rattle.race_report_parts.specs.Json.{place_value, warning_values, summary_values}
use Rattle.race_report_parts.specs.Pieces.{PutsMembers, counts_text, first_text, last_text, not_analysed_text}
use Rattle.race_report_parts.specs.Pieces.{places_strings}
use Rattle.race_report_parts.specs.Pieces.{summaries_text}

pub one : decimal 1 ≡ codes "1"
one = decimal_digit 1 (lit< tt)

profile : decimal 5 ≡ codes "5"
profile = decimal_digit 5 (lit< tt)

pub two_told : decimal 2 ≡ codes "2"
two_told = decimal_digit 2 (lit< tt)

-- an array of places
one_by_one : (core : Core) (places : List Place) →
    map string (map (place_text core) places) ≡ map (place_value core) places
one_by_one core [] = refl
one_by_one core (place ∷ places) = ap (λ (ds : List Data). place_value core place ∷ ds) (one_by_one core places)

each_place : (core : Core) (places : List Place) →
    texts (map (place_text core) places) ≡ values (map (place_value core) places)
each_place core places = ap values (one_by_one core places)

first_pieces : (c f m : ℕ) (na sk : Data) (others : Members) →
    compact_text (object (member (codes "classes") (count c) (member (codes "files") (count f)
    (member (codes "methods") (count m) (member (codes "not_analysed") na
    (member (codes "profile") (count 5) (member (codes "skipped") sk others))))))) ≡
    codes "{\"classes\":" ++ decimal c ++ codes ",\"files\":" ++ decimal f ++ codes ",\"methods\":" ++ decimal m
    ++ codes ",\"not_analysed\":" ++ compact_text na ++ codes ",\"profile\":5,\"skipped\":" ++ compact_text sk
    ++ members_text true others
unfolding serde_json_on_literals
first_pieces c f m na sk others = simp (profile, append_assoc)

last_pieces : (w : Data) →
    members_text true (member (codes "warnings") w no_members) ≡ codes ",\"warnings\":" ++ compact_text w ++ codes "}"
unfolding serde_json_on_literals
last_pieces w = refl

summaries_pieces : (s : Data) (others : Members) → members_text true (member (codes "summaries") s others) ≡
    codes ",\"summaries\":" ++ compact_text s ++ members_text true others
unfolding serde_json_on_literals
summaries_pieces s others = refl

grouped : (a b c d e rest : List ℕ) → (a ++ b ++ c ++ (d ++ e)) ++ rest ≡ a ++ b ++ c ++ d ++ e ++ rest
grouped a b c d e rest = simp append_assoc

grouped_first : (core : Core) (rest : List ℕ) → first_text core ++ rest ≡
    counts_text core ++ codes ",\"not_analysed\":" ++ not_analysed_text core
    ++ codes ",\"profile\":5,\"skipped\":" ++ places_strings core core.skipped ++ rest
grouped_first core rest =
    grouped (counts_text core) (codes ",\"not_analysed\":") (not_analysed_text core)
    (codes ",\"profile\":5,\"skipped\":") (places_strings core core.skipped) rest

-- the member of the summaries
pub summaries_told : (core : Core) (old named new : Written) → Puts (codes ",\"summaries\":") old named →
    Puts (summaries_text core) named new → PutsMembers (with_summaries true core) old new
summaries_told core old named new first is =
    let all : Data = values (flat_map (summary_values core) (enumerate_from 0 core.methods)) in
    let name = codes ",\"summaries\":" in
    record {
      lasts = λ h. first.lasts (is.lasts h);
      text = λ h others.
          ap (λ t. t ++ members_text true others)
          (is.text h ∙ ap (λ t. t ++ compact_text all) (first.text (is.lasts h)))
          ∙ append_assoc (string_bytes old.so_far ++ name) (compact_text all) (members_text true others)
          ∙ append_assoc (string_bytes old.so_far) name (compact_text all ++ members_text true others)
          ∙ ap (λ t. string_bytes old.so_far ++ t) (sym (summaries_pieces all others));
    }

-- the texts of the whole object: the first members, the summaries where they are asked for, the last member
whole_texts : (core : Core) (summaries : Bool) (found : List Warning) (old start two new : List ℕ) →
    found ≡ warnings core → start ≡ old ++ first_text core →
    ((others : Members) → two ++ members_text true others ≡
    start ++ members_text true (with_summaries summaries core others)) →
    new ≡ two ++ last_text core found → new ≡ old ++ compact_text (report_value summaries core)
whole_texts core summaries found old start two new all first asked last =
    let na : Data = values (flat_map (not_analysed_values core) (enumerate_from 0 core.methods)) in
    let sk : Data = texts (map (place_text core) core.skipped) in
    let w : Data = values (flat_map (warning_values core) (warnings core)) in
    let end : Members = member (codes "warnings") w no_members in
    let others : Members = with_summaries summaries core end in
    let whole : Data → List ℕ = λ (d : Data).
    compact_text (object (member (codes "classes") (count (length core.classes))
    (member (codes "files") (count (length core.files)) (member (codes "methods") (count (length core.methods))
    (member (codes "not_analysed") na (member (codes "profile") (count 5) (member (codes "skipped") d others))))))) in
    last
    ∙ ap (λ (ws : List Warning). two ++ last_text core ws) all
    ∙ ap (λ t. two ++ t) (sym (last_pieces w))
    ∙ asked end
    ∙ ap (λ t. t ++ members_text true others) first
    ∙ append_assoc old (first_text core) (members_text true others)
    ∙ ap (λ t. old ++ t) (grouped_first core (members_text true others)
    ∙ sym (first_pieces (length core.classes) (length core.files) (length core.methods) na sk others)
    ∙ ap whole (each_place core core.skipped))

pub whole_told : (core : Core) (summaries : Bool) (found : List Warning) (old start two new : Written) →
    found ≡ warnings core → Puts (first_text core) old start →
    PutsMembers (with_summaries summaries core) start two → Puts (last_text core found) two new →
    Puts (compact_text (report_value summaries core)) old new
whole_told core summaries found old start two new all first asked end =
    record {
      lasts = λ h. first.lasts (asked.lasts (end.lasts h));
      text = λ h.
          whole_texts core summaries found (string_bytes old.so_far) (string_bytes start.so_far)
          (string_bytes two.so_far) (string_bytes new.so_far) all (first.text (asked.lasts (end.lasts h)))
          (asked.text (end.lasts h)) (end.text h);
    }
