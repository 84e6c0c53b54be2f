use Rattle.std.proofs.Common.{◌≡◌, List, [], ◌∷◌, length, map, refl, rules}
use Rattle.std.specs.Prelude.{min}
use Rattle.std.proofs.lemmas.Slice.Zip.{zip_end}
use Rattle.java_resolver.specs.declared.infos.MethodInfo.{MethodInfo}
use Rattle.core_lowering.specs.declared.sources.Part.{Part}
use Rattle.core_lowering.specs.Parts.{MethodPart, part_of, with_infos}
use Rattle.core_lowering_surveys.proofs.ZipLoops.{zip-ended}
use Rattle.core_lowering.proofs.sources.with_infos.Goals as goal

none-known : (parts : List MethodPart) → with_infos parts [] ≡ []
none-known [] = refl
none-known (part ∷ parts) = refl

pub returns : goal.returns
returns c =
    let parts = c.args.parts.now in
    let infos = c.args.infos.now in
    let end : length c.loop-part.yielded ≡ min (length parts) (length infos) =
    zip_end parts infos c.loop-part.yielded c.into_iter-part-iterator.result c.loop-part.part-iterator c.next.new.self
    c.next.result (search rules) (search rules) c.loop-part.yielded_by c.in-None.is c.next.ensures.steps in
    zip-ended (λ (ps : List Part) (is : List MethodInfo). with_infos (map part_of ps) is) parts infos
    (length c.loop-part.yielded) _ _ c.loop-part.invariant (λ is. refl) (λ ps. none-known (map part_of ps)) end
