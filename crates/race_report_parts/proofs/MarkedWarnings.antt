-- Marks of warnings, one by one.
use Rattle.std.proofs.Common.{◌≡◌, ℕ, ◌<◌, get_or, List, Some, option_map, length, map, slice_get}
use Rattle.std.proofs.Common.{sym, ap, ◌∙◌}
use Rattle.std.proofs.lemmas.List.{length-map}
use Rattle.std.proofs.lemmas.Option.{slice_get-get_or, slice_get-map}
use Rattle.core_code.specs.Core.{Core}
use Rattle.race_pairs.specs.declared.warning.Warning.{Warning}
use Rattle.core_ways.specs.declared.mark.Mark.{Mark}
use Rattle.core_ways.specs.Marks.{Said, said_by}
use Rattle.witness_build_laws.specs.Warned.{warning_mark}

-- there are as many marks as warnings
pub as_long : (core : Core) (found : List Warning) (marks : List Mark) →
    map said_by marks ≡ map (warning_mark core) found → length marks ≡ length found
as_long core found marks are =
    sym (length-map marks said_by)
    ∙ ap (λ (ms : List Said). length ms) are
    ∙ length-map found (warning_mark core)

-- the mark of a number says what the mark of the warning of this number says
mark_there : (core : Core) (found : List Warning) (marks : List Mark) (i : ℕ) (w : Warning) (mark : Mark) →
    map said_by marks ≡ map (warning_mark core) found → slice_get found i ≡ Some w → slice_get marks i ≡ Some mark →
    said_by mark ≡ warning_mark core w
mark_there core found marks i w mark are there here =
    let both : Some (said_by mark) ≡ Some (warning_mark core w) =
    sym (ap (λ o. option_map said_by o) here)
    ∙ sym (slice_get-map said_by marks i)
    ∙ ap (λ (ms : List Said). slice_get ms i) are
    ∙ slice_get-map (warning_mark core) found i
    ∙ ap (λ o. option_map (warning_mark core) o) there in
    cc

-- the same of a warning that is read
pub mark_read : (core : Core) (found : List Warning) (marks : List Mark) (i : ℕ) (none : Warning) (mark : Mark) →
    map said_by marks ≡ map (warning_mark core) found → i < length found → slice_get marks i ≡ Some mark →
    said_by mark ≡ warning_mark core (get_or found i none)
mark_read core found marks i none mark are within here =
    mark_there core found marks i (get_or found i none) mark are (slice_get-get_or found i none within) here
