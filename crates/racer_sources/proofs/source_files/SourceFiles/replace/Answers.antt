use Rattle.std.proofs.Common.{refl, sym, ◌∙◌, map, string_bytes}
use Rattle.std.proofs.lemmas.Bool.{false≢true}
use Rattle.racer_sources.proofs.Replaced.{kept_replaced, number_there}
use Rattle.racer_sources.proofs.source_files.SourceFiles.replace.Goals as goal

pub returns-clause-kept : goal.returns-clause-kept
returns-clause-kept c = λ files whole are named is.
    kept_replaced files c.args.name.now whole c.args.self.now _ c.in-Some.number c.args.bytes c.in-Some.ensures refl refl
    are named is

pub returns-clause-stays : goal.returns-clause-stays
returns-clause-stays c = λ none.
    absurd (false≢true (sym none
    ∙ number_there (map string_bytes c.args.self.now.names.items) c.args.name.now c.in-Some.number c.in-Some.ensures))
