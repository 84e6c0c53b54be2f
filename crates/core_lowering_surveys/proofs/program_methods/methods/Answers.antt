use Rattle.std.proofs.Common.{◌≡◌, ◌<◌, ℕ, List, [], ◌∷◌, ◌++◌, Option, drop, get_or, length, map, refl, rules}
use Rattle.std.proofs.Common.{sym, ap, ◌∙◌, subst, length-append}
use Rattle.std.specs.Prelude.{min}
use Rattle.std.proofs.lemmas.List.{map-append}
use Rattle.std.proofs.lemmas.List.Elements.{All-get_or}
use Rattle.std.proofs.lemmas.Slice.Zip.{zip_end, zip_turn}
use Rattle.core_code.specs.declared.code.Reason.{Reason}
use Rattle.core_code.specs.declared.parts.MethodCore.{MethodCore}
use Rattle.core_code.specs.Core.{Method, method_of}
use Rattle.core_lowering_rules.specs.Context.{Folder}
use Rattle.core_lowering_rules.specs.Methods.{Source as SeenSource}
use Rattle.core_lowering_rules.specs.Programs.{method_core, method_cores}
use Rattle.core_lowering_context.specs.Views.{folder_of}
use Rattle.core_lowering_surveys.specs.declared.surveys.Surveyed.{Surveyed}
use Rattle.core_lowering_surveys.specs.Surveys.{seen, IsRight}
use Rattle.core_lowering_surveys.proofs.ZipLoops.{zip-ended, zip-turn}
use Rattle.core_lowering_surveys.proofs.program_methods.methods.Goals as goal

no-statuses : (folder : Folder) (sources : List SeenSource) → method_cores folder sources [] ≡ []
no-statuses folder [] = refl
no-statuses folder (s ∷ sources) = refl

abbrev cores : Folder → List Surveyed → List (Option Reason) → List Method
cores folder sources statuses = method_cores folder (map seen sources) statuses

pub method-requires : goal.method-requires
method-requires c =
    let surveyed = c.args.surveyed.now in
    let statuses = c.args.statuses.now in
    let i = length c.loop-one.yielded in
    let one = c.in-Some.one in
    let at : (i < length surveyed) × (i < length statuses) × ((d : Surveyed) → one.now ≡ get_or surveyed i d)
    × ((d : Option Reason) → c.in-Some.status.now ≡ get_or statuses i d) =
    zip_turn surveyed statuses c.loop-one.yielded c.into_iter-one-iterator.result c.loop-one.one-iterator
    c.next.new.self c.next.result (search rules) (search rules) c.loop-one.yielded_by (one, c.in-Some.status)
    c.in-Some.is c.next.ensures.steps in
    subst (IsRight c.args.table.now c.args.cells.now) (sym (at.2 one.now))
    (All-get_or (IsRight c.args.table.now c.args.cells.now) surveyed i one.now at.0 c.requires)

pub loop-one-preserved : goal.loop-one-preserved
loop-one-preserved c =
    let sources = c.args.surveyed.now in
    let statuses = c.args.statuses.now in
    let folder = folder_of c.args.table.now c.args.cells.now statuses in
    let i = length c.loop-one.yielded in
    let source = c.in-Some.one in
    let status = c.in-Some.status in
    let at : (i < length sources) × (i < length statuses) × ((d : Surveyed) → source.now ≡ get_or sources i d)
    × ((d : Option Reason) → status.now ≡ get_or statuses i d) =
    zip_turn sources statuses c.loop-one.yielded c.into_iter-one-iterator.result c.loop-one.one-iterator
    c.next.new.self c.next.result (search rules) (search rules) c.loop-one.yielded_by (source, status) c.in-Some.is
    c.next.ensures.steps in
    let old = c.loop-one.methods in
    let made : MethodCore = c.in_ok-method.field-0 in
    let pushed : c.push.new.self ≡ old ++ made ∷ [] = search rules in
    let core : Method = method_core folder (seen source.now) status.now in
    let new : map method_of c.push.new.self ≡ map method_of old ++ core ∷ [] =
    ap (map method_of) pushed ∙ map-append method_of old (made ∷ [])
    ∙ ap (λ (m : Method). map method_of old ++ m ∷ []) c.in_ok-method.ensures in
    subst (λ (n : ℕ). map method_of c.push.new.self ++ cores folder (drop n sources) (drop n statuses) ≡
    cores folder sources statuses) (sym (length-append c.loop-one.yielded ((source, status) ∷ [])))
    (zip-turn (cores folder) sources statuses i (map method_of old) (cores folder sources statuses)
    c.loop-one.invariant (λ s st. method_core folder (seen s) st) source.now status.now
    (map method_of c.push.new.self) (λ s ss st sts. refl) at.0 at.1 (at.2 source.now) (at.3 status.now) new)

pub returns : goal.returns
returns c =
    let sources = c.args.surveyed.now in
    let statuses = c.args.statuses.now in
    let folder = folder_of c.args.table.now c.args.cells.now statuses in
    let end : length c.loop-one.yielded ≡ min (length sources) (length statuses) =
    zip_end sources statuses c.loop-one.yielded c.into_iter-one-iterator.result c.loop-one.one-iterator
    c.next.new.self
    c.next.result (search rules) (search rules) c.loop-one.yielded_by c.in-None.is c.next.ensures.steps in
    zip-ended (cores folder) sources statuses (length c.loop-one.yielded) _ _ c.loop-one.invariant (λ sts. refl)
    (λ ss. no-statuses folder (map seen ss)) end
