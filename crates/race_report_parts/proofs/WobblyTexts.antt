-- The wobbly paths of a summary differ, and which list they are in does not matter for their texts in byte order.
use Rattle.std.proofs.Common.{◌≡◌, ℕ, Bool, true, false, cond, List, [], ◌∷◌, Option, None, Some, map, length}
use Rattle.std.proofs.Common.{option_map}
use Rattle.std.proofs.Common.{is_none, refl, sym, ap, subst, ◌∙◌}
use Rattle.std.proofs.Common.{◌||◌, IfSome, String, string_bytes}
use Rattle.std.specs.Global.{Global}
use Rattle.std.specs.List.{list_any}
use Rattle.std.specs.List.Sorted.{IsPermutation, IsSorted}
use Rattle.std.specs.String.{string_cmp}
use Rattle.std.proofs.lemmas.List.Sorted.{IsPermutation-map}
use Rattle.std.specs.Ordering.{eq_by_cmp}
use Rattle.std.specs.FinSet as set
use Rattle.racer_base.specs.declared.ids.MethodId.{MethodId}
use Rattle.access_paths.specs.declared.path.Path.{Path}
use Rattle.access_paths.specs.Paths.{same_path}
use Rattle.access_paths.specs.Order.{path_cmp, PathSet}
use Rattle.access_paths.specs.Same.{equal_of_same, tied, path_cmp-total, same_path-itself}
use Rattle.core_code.specs.Core.{Core, Method}
use Rattle.core_code.specs.Calls.{method_at}
use Rattle.access_domain.specs.declared.summary.Summary.{Summary}
use Rattle.access_domain.specs.Findings.{Findings, Known, Large, Whole, summary_from}
use Rattle.access_domain.specs.Operations.{Effects}
use Rattle.access_domain.specs.Records.{firsts}
use Rattle.access_domain.specs.Summaries.{known_of, known_of_callees, known_from, known_given, effects_given, is_large}
use Rattle.access_domain.specs.Summaries.{findings_from}
use Rattle.access_domain.proofs.AdditionLemmas.{len-from_list}
use Rattle.race_report_parts.specs.ByteOrder.{in_byte_order}
use Rattle.race_report_parts.proofs.SortedTexts.{Apart, apart_firsts, whole_firsts, order_of_same}
use Rattle.race_report_parts.proofs.SortedTexts.{order_of_sorted, order_of_moved}
use Rattle.race_report_parts.specs.Texts.{path_text}
use Rattle.race_report_parts.specs.Told.{found_in, found_of, wobbly_texts}

-- ---- the paths of a summary

apart_large : (large : Bool) (e : Effects) (found : Findings) →
    cond large Large (Whole (findings_from e)) ≡ Whole found →
    Apart same_path found.wobbly
apart_large true e found is = cc
apart_large false e found is =
    let same : findings_from e ≡ found = cc in
    subst (λ (f : Findings). Apart same_path f.wobbly) same (apart_firsts same_path e.wobbly)

apart_analysed : (b : Bool) (e : Effects) (found : Findings) → cond b (Some (known_from e)) None ≡ Some (Whole found) →
    Apart same_path found.wobbly
apart_analysed true e found is =
    let same : known_from e ≡ Whole found = cc in
    apart_large (is_large e) e found same
apart_analysed false e found is = cc

apart_at : (core : Core) (m : MethodId) (o : Option Method) (found : Findings) → method_at core m ≡ o →
    known_of core m ≡ Some (Whole found) → Apart same_path found.wobbly
apart_at core m None found is known = cc
apart_at core m (Some method) found is known =
    apart_analysed (is_none method.status) (effects_given core (known_of_callees core m) method) found
    (sym (ap (λ (o : Option Method). elim o [
      | None ↦ None
      | Some of ↦ cond (is_none of.status) (Some (known_given core (known_of_callees core m) of)) None
    ]) is) ∙ known)

-- no wobbly path of what is found of a method stands there twice
pub apart_wobbly : (core : Core) (m : MethodId) (found : Findings) → known_of core m ≡ Some (Whole found) →
    Apart same_path found.wobbly
apart_wobbly core m found = apart_at core m (method_at core m) found refl

-- ---- lists of one set

any_alike : (q : Path) (ps : List Path) → list_any (same_path q) ps ≡ list_any (eq_by_cmp path_cmp q) ps
any_alike q [] = refl
any_alike q (p ∷ ps) = (λ i. sym (tied q p) i || any_alike q ps i)

has_same : (q : Path) (ps : List Path) → list_any (same_path q) ps ≡ set.contains (set.from_list {R = path_cmp} ps) q
has_same q ps = any_alike q ps ∙ sym (set.contains-from_list path_cmp-total ps q)

same_order : (text : Path → List ℕ) (ps qs : List Path) →
    set.from_list {R = path_cmp} ps ≡ set.from_list qs → length ps ≡ set.len (set.from_list {R = path_cmp} ps) →
    Apart same_path qs → in_byte_order (map text ps) ≡ in_byte_order (map text qs)
same_order text ps qs same long apart =
    let whole : firsts same_path ps ≡ ps = whole_firsts same_path ps (sym (len-from_list ps) ∙ sym long) in
    order_of_same same_path same_path-itself equal_of_same text ps qs
    (subst (Apart same_path) whole (apart_firsts same_path ps)) apart
    (λ q. has_same q ps ∙ ap (λ (s : PathSet). set.contains s q) same ∙ sym (has_same q qs))

-- ---- the texts of a summary

told_of_known : (core : Core) (known : Option Known) (summary : Summary) (ps : List Path) (texts : List (List ℕ)) →
    ((found : Findings) → known ≡ Some (Whole found) → Apart same_path found.wobbly) →
    option_map summary_from (found_in known) ≡ Some summary → set.from_list {R = path_cmp} ps ≡ summary.wobbly →
    length ps ≡ set.len summary.wobbly → texts ≡ in_byte_order (map (path_text core) ps) →
    IfSome (found_in known) (λ found. texts ≡ wobbly_texts core found)
told_of_known core None summary ps texts apart is same long are = tt
told_of_known core (Some Large) summary ps texts apart is same long are = tt
told_of_known core (Some (Whole found)) summary ps texts apart is same long are =
    let held : summary_from found ≡ summary = cc in
    let one : set.from_list {R = path_cmp} ps ≡ set.from_list found.wobbly =
    same ∙ ap (λ (s : Summary). s.wobbly) (sym held) in
    are ∙ same_order (path_text core) ps found.wobbly one (long ∙ ap (λ (s : PathSet). set.len s) (sym same))
    (apart found refl)

-- these texts are those of the wobbly paths of a method's summary, in byte order
pub wobbly_told : (core : Core) (m : MethodId) (summary : Summary) (ps : List Path) (texts : List (List ℕ)) →
    option_map summary_from (found_of core m) ≡ Some summary → set.from_list {R = path_cmp} ps ≡ summary.wobbly →
    length ps ≡ set.len summary.wobbly → texts ≡ in_byte_order (map (path_text core) ps) →
    IfSome (found_of core m) (λ found. texts ≡ wobbly_texts core found)
wobbly_told core m summary ps texts =
    told_of_known core (known_of core m) summary ps texts (λ found. apart_wobbly core m found)

-- sorted texts are in byte order
pub sorted_texts : (old new : List (String Global)) → IsPermutation old new → IsSorted string_cmp new →
    map string_bytes new ≡ in_byte_order (map string_bytes old)
sorted_texts old new moved up =
    sym (order_of_sorted string_bytes new up)
    ∙ order_of_moved (map string_bytes old) (map string_bytes new) (IsPermutation-map string_bytes old new moved)
