-- The walk over the items of a file gives the declarations of the file, or stops at what does not fit.
use Rattle.std.proofs.Common.{◌≡◌, Bool, true, false, not, ◌&&◌, List, [], ◌∷◌, ◌++◌, Option, Some, None}
use Rattle.std.proofs.Common.{Result, Ok, Err, filter, refl, ap, sym, subst, ◌∙◌, codes}
use Rattle.std.specs.Prelude.{if◌then◌else◌, option_map}
use Rattle.std.specs.List.{list_all}
use Rattle.std.proofs.lemmas.Bool.{true≢false, and_parts}
use Rattle.java_parser_grammar.specs.Tokens.{begins_sign, begins_word}
use Rattle.java_parser_grammar.specs.Cuts.{onto_first, joined, ends}
use Rattle.java_parser_grammar.specs.Pieces.{Item, cut_pieces}
use Rattle.java_parser_grammar.specs.Declarations.{is_type_modifier, leads, ends_first, behind_front, names_type}
use Rattle.java_parser_grammar.specs.Declarations.{is_semicolon}
use Rattle.java_parser_grammar.specs.Declarations.{is_package, is_import, is_type, behind_one, behind_all, is_file}
use Rattle.java_parser_grammar.specs.Declarations.{AreDeclarations}
use Rattle.java_parser_grammar.specs.DeclarationWalk.{Seen, Whole, seen_with, is_whole, and_before, declarations}
use Rattle.java_parser_grammar.proofs.ItemLetters.{Letter, Semicolon, Reads, reads}
use Rattle.java_parser_grammar.proofs.OneCut.{joined_declarations}
use Rattle.java_parser_grammar.proofs.SeenLetters.{ended, run, run_from, run_is}
use Rattle.java_parser_grammar.proofs.OneDeclaration.{run_is_tested}

abbrev Declared : Type 0
Declared = Result (List (List Item)) (List Item)

-- ---- the walk from item to item

abbrev pub from : Option Seen → Item → List Item → Declared
from None i is = Err (i ∷ is)
from (Some m) i is = and_before (is_whole m) i (declarations m is)

pub declarations_are : (s : Seen) (i : Item) (is : List Item) → declarations s (i ∷ is) ≡ from (seen_with s i) i is
declarations_are s i is = by_next (seen_with s i) where
  by_next : (o : Option Seen) → (elim o as (λ _. Result (List (List Item)) (List Item)) [
    | None ↦ Err (i ∷ is)
    | (Some m) ↦ and_before (is_whole m) i (declarations m is)
  ]) ≡ from o i is
  by_next None = refl
  by_next (Some m) = refl

abbrev pub and_whole : List Item → Declared → Declared
and_whole d (Ok ds) = Ok (d ∷ ds)
and_whole d (Err rest) = Err rest

pub alone : (i : Item) (r : Declared) → and_before true i r ≡ and_whole (i ∷ []) r
alone i (Ok ds) = refl
alone i (Err rest) = refl

pub longer : (i : Item) (d : List Item) (r : Declared) → and_before false i (and_whole d r) ≡ and_whole (i ∷ d) r
longer i d (Ok ds) = refl
longer i d (Err rest) = refl

-- ---- the declarations of a walk, one after the other

abbrev Runs : Seen → List (List Item) → Type 0
Runs s [] = is_whole s ≡ true
Runs s (d ∷ ds) = (m : Seen) × (run s d ≡ Some m) × Runs m ds

-- one is cut off in front
first_by : (whole : Bool) (m : Seen) (i : Item) (d rest : List Item) (more : Seen) → is_whole m ≡ whole
    → ended whole m d (run m d) ≡ Some more
    → (run m d ≡ Some more → declarations m (d ++ rest) ≡ and_whole d (declarations more rest))
    → and_before whole i (declarations m (d ++ rest)) ≡ and_whole (i ∷ d) (declarations more rest)
first_by true m i [] rest more w e others =
    let same : m ≡ more = cc in alone i (declarations m rest) ∙ ap (λ s. and_whole (i ∷ []) (declarations s rest)) same
first_by true m i (j ∷ js) rest more w e others = absurd cc
first_by false m i d rest more w e others = ap (and_before false i) (others e) ∙ longer i d (declarations more rest)

first_next : (o : Option Seen) (i : Item) (d rest : List Item) (more : Seen) → run_from o d ≡ Some more
    → ((m : Seen) → run m d ≡ Some more → declarations m (d ++ rest) ≡ and_whole d (declarations more rest))
    → from o i (d ++ rest) ≡ and_whole (i ∷ d) (declarations more rest)
first_next None i d rest more e others = absurd cc
first_next (Some m) i d rest more e others = first_by (is_whole m) m i d rest more refl e (others m)

first_cut : (d : List Item) (s : Seen) (rest : List Item) (more : Seen) → run s d ≡ Some more
    → declarations s (d ++ rest) ≡ and_whole d (declarations more rest)
first_cut [] s rest more e = absurd cc
first_cut (i ∷ d) s rest more e =
    declarations_are s i (d ++ rest)
    ∙ first_next (seen_with s i) i d rest more (sym (run_is s i d) ∙ e) (λ m h. first_cut d m rest more h)

abbrev when_whole : Bool → Declared
when_whole b = if b then Ok [] else Err []

-- what is cut so is what the walk gives
runs_cut : (ds : List (List Item)) (s : Seen) → Runs s ds → declarations s (joined ds) ≡ Ok ds
runs_cut [] s h = ap when_whole h
runs_cut (d ∷ ds) s h = first_cut d s (joined ds) h.0 h.1 ∙ ap (and_whole d) (runs_cut ds h.0 h.2)

run_with : (s m : Seen) (i : Item) (d : List Item) → seen_with s i ≡ Some m → run s (i ∷ d)
    ≡ ended (is_whole m) m d (run m d)
run_with s m i d n = run_is s i d ∙ ap (λ o. run_from o d) n

runs_alone : (s m : Seen) (i : Item) (ds : List (List Item)) → seen_with s i ≡ Some m → is_whole m ≡ true
    → Runs m ds → Runs s ((i ∷ []) ∷ ds)
runs_alone s m i ds n w h = (m, run_with s m i [] n ∙ ap (λ b. ended b m [] None) w, h)

runs_longer : (s m : Seen) (i : Item) (ds : List (List Item)) → seen_with s i ≡ Some m → is_whole m ≡ false
    → Runs m ds → Runs s (onto_first i ds)
runs_longer s m i [] n w h = absurd (true≢false (sym h ∙ w))
runs_longer s m i (d ∷ ds) n w h = (h.0, run_with s m i d n ∙ ap (λ b. ended b m d (run m d)) w ∙ h.1, h.2)

runs_by : (whole : Bool) (s m : Seen) (i : Item) (r : Declared) (ds : List (List Item)) → seen_with s i ≡ Some m
    → is_whole m ≡ whole → ((es : List (List Item)) → r ≡ Ok es → Runs m es) → and_before whole i r ≡ Ok ds → Runs s ds
runs_by true s m i (Ok es) ds n w all e =
    let same : (i ∷ []) ∷ es ≡ ds = cc in subst (Runs s) same (runs_alone s m i es n w (all es refl))
runs_by false s m i (Ok es) ds n w all e =
    let same : onto_first i es ≡ ds = cc in subst (Runs s) same (runs_longer s m i es n w (all es refl))
runs_by whole s m i (Err rest) ds n w all e = absurd cc

runs_next : (o : Option Seen) (s : Seen) (i : Item) (is : List Item) (ds : List (List Item)) → seen_with s i ≡ o
    → ((m : Seen) (es : List (List Item)) → declarations m is ≡ Ok es → Runs m es) → from o i is ≡ Ok ds → Runs s ds
runs_next None s i is ds n all e = absurd cc
runs_next (Some m) s i is ds n all e = runs_by (is_whole m) s m i (declarations m is) ds n refl (all m) e

runs_none : (s : Seen) (b : Bool) (ds : List (List Item)) → is_whole s ≡ b → when_whole b ≡ Ok ds → Runs s ds
runs_none s true ds w e = let same : [] ≡ ds = cc in subst (Runs s) same w
runs_none s false ds w e = absurd cc

-- what the walk gives is cut so
walk_runs : (is : List Item) (s : Seen) (ds : List (List Item)) → declarations s is ≡ Ok ds → Runs s ds
walk_runs [] s ds e = runs_none s (is_whole s) ds refl e
walk_runs (i ∷ is) s ds e =
    runs_next (seen_with s i) s i is ds refl (λ m es h. walk_runs is m es h) (sym (declarations_are s i is) ∙ e)

-- ---- a file, from declaration to declaration

-- where a package, imports, or types alone may follow
data Stage : Type 0 where
  First : Stage
  Imports : Stage
  Types : Stage

abbrev seen_at : Stage → Seen
seen_at First = Whole true true
seen_at Imports = Whole false true
seen_at Types = Whole false false

abbrev some_of : List (List Item) → List (List Item)
some_of ds = filter (λ d. not (is_semicolon d)) ds

abbrev fits : Stage → List (List Item) → Bool
fits First ds = is_file ds
fits Imports ds = list_all is_type (behind_all is_import (some_of ds))
fits Types ds = list_all is_type (some_of ds)

-- by whether one is a lone `;`, an import, a package, a type
abbrev next_stage : Stage → (a b c d : Bool) → Option Stage
next_stage First a b c d =
    if a then Some First
    else (if b then Some Imports else (if c then Some Imports else (if d then Some Types else None)))
next_stage Imports a b c d =
    if a then Some Imports else (if b then Some Imports else (if d then Some Types else None))
next_stage Types a b c d = if a then Some Types else (if d then Some Types else None)

abbrev stage_behind : Stage → List Item → Option Stage
stage_behind s d = next_stage s (is_semicolon d) (is_import d) (is_package d) (is_type d)

seen_next : (s : Stage) (a b c d : Bool) → (if a then Some (seen_at s) else (
    if (elim s [ First ↦ true | Imports ↦ true | Types ↦ false ]) && b then Some (Whole false true)
    else (if (elim s [ First ↦ true | Imports ↦ false | Types ↦ false ]) && c then Some (Whole false true)
    else (if d then Some (Whole false false) else None)))) ≡ option_map seen_at (next_stage s a b c d)
seen_next First true b c d = refl
seen_next First false true c d = refl
seen_next First false false true d = refl
seen_next First false false false true = refl
seen_next First false false false false = refl
seen_next Imports true b c d = refl
seen_next Imports false true c d = refl
seen_next Imports false false c true = refl
seen_next Imports false false c false = refl
seen_next Types true b c d = refl
seen_next Types false b c true = refl
seen_next Types false b c false = refl

run_at : (s : Stage) (d : List Item) → run (seen_at s) d ≡ option_map seen_at (stage_behind s d)
run_at First d =
    run_is_tested d (seen_at First) ∙ seen_next First (is_semicolon d) (is_import d) (is_package d) (is_type d)
run_at Imports d =
    run_is_tested d (seen_at Imports) ∙ seen_next Imports (is_semicolon d) (is_import d) (is_package d) (is_type d)
run_at Types d =
    run_is_tested d (seen_at Types) ∙ seen_next Types (is_semicolon d) (is_import d) (is_package d) (is_type d)

abbrev fit_behind : Option Stage → List (List Item) → Bool
fit_behind None ds = false
fit_behind (Some s) ds = fits s ds

abbrev kept_behind : (lone : Bool) → List Item → List (List Item) → List (List Item)
kept_behind lone d ds = if not lone then d ∷ some_of ds else some_of ds

types_by : (d : List Item) (ds : List (List Item)) (a b c e : Bool) → is_type d ≡ e
    → list_all is_type (kept_behind a d ds) ≡ fit_behind (next_stage Types a b c e) ds
types_by d ds true b c e h = refl
types_by d ds false b c true h = ap (λ x. x && list_all is_type (some_of ds)) h
types_by d ds false b c false h = ap (λ x. x && list_all is_type (some_of ds)) h

imports_by : (d : List Item) (ds : List (List Item)) (a b c e : Bool) → is_import d ≡ b → is_type d ≡ e
    → list_all is_type (behind_all is_import (kept_behind a d ds)) ≡ fit_behind (next_stage Imports a b c e) ds
imports_by d ds true b c e g h = refl
imports_by d ds false true c e g h =
    ap (λ x. list_all is_type (if x then behind_all is_import (some_of ds) else d ∷ some_of ds)) g
imports_by d ds false false c true g h =
    ap (λ x. list_all is_type (if x then behind_all is_import (some_of ds) else d ∷ some_of ds)) g
    ∙ types_by d ds false false c true h
imports_by d ds false false c false g h =
    ap (λ x. list_all is_type (if x then behind_all is_import (some_of ds) else d ∷ some_of ds)) g
    ∙ types_by d ds false false c false h

first_by_kind : (d : List Item) (ds : List (List Item)) (a b c e : Bool) → is_import d ≡ b → is_package d ≡ c
    → is_type d ≡ e → list_all is_type (behind_all is_import (behind_one is_package (kept_behind a d ds)))
    ≡ fit_behind (next_stage First a b c e) ds
first_by_kind d ds true b c e g p h = refl
first_by_kind d ds false true true e g p h =
    ap (λ x. list_all is_type (behind_all is_import (if x then some_of ds else d ∷ some_of ds))) p
first_by_kind d ds false false true e g p h =
    ap (λ x. list_all is_type (behind_all is_import (if x then some_of ds else d ∷ some_of ds))) p
first_by_kind d ds false true false e g p h =
    ap (λ x. list_all is_type (behind_all is_import (if x then some_of ds else d ∷ some_of ds))) p
    ∙ imports_by d ds false true false e g h
first_by_kind d ds false false false true g p h =
    ap (λ x. list_all is_type (behind_all is_import (if x then some_of ds else d ∷ some_of ds))) p
    ∙ imports_by d ds false false false true g h
first_by_kind d ds false false false false g p h =
    ap (λ x. list_all is_type (behind_all is_import (if x then some_of ds else d ∷ some_of ds))) p
    ∙ imports_by d ds false false false false g h

fits_next : (s : Stage) (d : List Item) (ds : List (List Item)) → fits s (d ∷ ds) ≡ fit_behind (stage_behind s d) ds
fits_next First d ds =
    first_by_kind d ds (is_semicolon d) (is_import d) (is_package d) (is_type d) refl refl refl
fits_next Imports d ds =
    imports_by d ds (is_semicolon d) (is_import d) (is_package d) (is_type d) refl refl
fits_next Types d ds = types_by d ds (is_semicolon d) (is_import d) (is_package d) (is_type d) refl

fit_runs_by : (s : Stage) (d : List Item) (ds : List (List Item)) (o : Option Stage) → stage_behind s d ≡ o
    → fit_behind o ds ≡ true → ((t : Stage) → fits t ds ≡ true → Runs (seen_at t) ds) → Runs (seen_at s) (d ∷ ds)
fit_runs_by s d ds None n h all = absurd (true≢false (sym h))
fit_runs_by s d ds (Some t) n h all = (seen_at t, run_at s d ∙ ap (option_map seen_at) n, all t h)

fit_runs : (ds : List (List Item)) (s : Stage) → fits s ds ≡ true → Runs (seen_at s) ds
fit_runs [] First h = refl
fit_runs [] Imports h = refl
fit_runs [] Types h = refl
fit_runs (d ∷ ds) s h =
    fit_runs_by s d ds (stage_behind s d) refl (sym (fits_next s d ds) ∙ h) (λ t k. fit_runs ds t k)

runs_fit_by : (s : Stage) (d : List Item) (ds : List (List Item)) (o : Option Stage) (m : Seen)
    → option_map seen_at o ≡ Some m → Runs m ds → ((t : Stage) → Runs (seen_at t) ds → fits t ds ≡ true)
    → fit_behind o ds ≡ true
runs_fit_by s d ds None m e h all = absurd cc
runs_fit_by s d ds (Some t) m e h all =
    let same : m ≡ seen_at t = cc in all t (subst (λ m. Runs m ds) same h)

runs_fit : (ds : List (List Item)) (s : Stage) → Runs (seen_at s) ds → fits s ds ≡ true
runs_fit [] First h = refl
runs_fit [] Imports h = refl
runs_fit [] Types h = refl
runs_fit (d ∷ ds) s h =
    fits_next s d ds
    ∙ runs_fit_by s d ds (stage_behind s d) h.0 (sym (run_at s d) ∙ h.1) h.2 (λ t k. runs_fit ds t k)

-- the walk gives the declarations of a file, and those of each file
pub walk_is_file : (is : List Item) (ds : List (List Item)) → declarations (Whole true true) is ≡ Ok ds
    → AreDeclarations is ds
walk_is_file is ds e = record {
  together = joined_declarations (Whole true true) is ds e;
  file = runs_fit ds First (walk_runs is (Whole true true) ds e);
}

pub file_is_walk : (is : List Item) (ds : List (List Item)) → AreDeclarations is ds
    → declarations (Whole true true) is ≡ Ok ds
file_is_walk is ds h =
    ap (declarations (Whole true true)) (sym h.together)
    ∙ runs_cut ds (Whole true true) (fit_runs ds First h.file)

-- ---- in a file the types are what ends with braces

abbrev braces : Item → Bool
braces i = begins_sign (codes "{") i

abbrev line_end : Item → Bool
line_end i = begins_sign (codes ";") i

last_of : (test : Item → Bool) (d : List Item) → ends_first test d ≡ true → ends test d ≡ true
last_of test [] e = e
last_of test (i ∷ []) e = e
last_of test (i ∷ j ∷ is) e = last_of test (j ∷ is) (and_parts (not (test i)) (ends_first test (j ∷ is)) e).1

no_braces : (i : Item) (l : Letter) → Reads i l → line_end i ≡ true → braces i ≡ false
no_braces i Semicolon k e = k.braces
no_braces i l k e = absurd (true≢false (sym e ∙ k.semicolon))

ends_apart : (d : List Item) → ends line_end d ≡ true → ends braces d ≡ false
ends_apart [] e = refl
ends_apart (i ∷ []) e = let l = reads i in no_braces i l.0 l.1 e
ends_apart (i ∷ j ∷ is) e = ends_apart (j ∷ is) e

lone_ends : (d : List Item) → is_semicolon d ≡ true → ends line_end d ≡ true
lone_ends [] e = absurd cc
lone_ends (i ∷ []) e = e
lone_ends (i ∷ j ∷ is) e = absurd cc

import_ends : (d : List Item) → is_import d ≡ true → ends line_end d ≡ true
import_ends d e = last_of line_end d (and_parts (leads (begins_word (codes "import")) d) (ends_first line_end d) e).1

package_ends : (d : List Item) → is_package d ≡ true → ends line_end d ≡ true
package_ends d e =
    last_of line_end d (and_parts (leads (begins_word (codes "package")) (behind_front (λ t. false) (cut_pieces 0 d)))
    (ends_first line_end d) e).1

type_ends : (d : List Item) → is_type d ≡ true → ends braces d ≡ true
type_ends d e =
    last_of braces d (and_parts (names_type (behind_front is_type_modifier (cut_pieces 0 d))) (ends_first braces d) e).1

ends_as : (d : List Item) (a b c e : Bool) (s t : Stage) → is_semicolon d ≡ a → is_import d ≡ b → is_package d ≡ c
    → is_type d ≡ e → next_stage s a b c e ≡ Some t → e ≡ ends braces d
ends_as d a b c true s t f g h i n = sym (type_ends d i)
ends_as d true b c false s t f g h i n = sym (ends_apart d (lone_ends d f))
ends_as d false true c false s t f g h i n = sym (ends_apart d (import_ends d g))
ends_as d false false true false s t f g h i n = sym (ends_apart d (package_ends d h))
ends_as d false false false false First t f g h i n = absurd cc
ends_as d false false false false Imports t f g h i n = absurd cc
ends_as d false false false false Types t f g h i n = absurd cc

types_by_ends : (s : Stage) (d : List Item) (ds : List (List Item)) (o : Option Stage) → stage_behind s d ≡ o
    → fit_behind o ds ≡ true
    → ((t : Stage) → fits t ds ≡ true → filter is_type ds ≡ filter (λ d. ends braces d) ds)
    → filter is_type (d ∷ ds) ≡ filter (λ d. ends braces d) (d ∷ ds)
types_by_ends s d ds None n h all = absurd (true≢false (sym h))
types_by_ends s d ds (Some t) n h all =
    ap (λ b. if b then d ∷ filter is_type ds else filter is_type ds)
    (ends_as d (is_semicolon d) (is_import d) (is_package d) (is_type d) s t refl refl refl refl n)
    ∙ ap (λ es. if ends braces d then d ∷ es else es) (all t h)

types_end : (ds : List (List Item)) (s : Stage) → fits s ds ≡ true
    → filter is_type ds ≡ filter (λ d. ends braces d) ds
types_end [] s h = refl
types_end (d ∷ ds) s h =
    types_by_ends s d ds (stage_behind s d) refl (sym (fits_next s d ds) ∙ h) (λ t k. types_end ds t k)

pub types_end_with_braces : (is : List Item) (ds : List (List Item)) → AreDeclarations is ds
    → filter is_type ds ≡ filter (λ d. ends (begins_sign (codes "{")) d) ds
types_end_with_braces is ds h = types_end ds First h.file
