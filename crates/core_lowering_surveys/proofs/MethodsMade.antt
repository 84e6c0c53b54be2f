-- A method is made of its parts.
use Rattle.std.proofs.Common.{◌≡◌, ℕ, Bool, List, Option}
use Rattle.racer_base.specs.declared.ids.Kind.{Kind}
use Rattle.core_lowering_rules.proofs.ZippedLists.{same_5}
use Rattle.core_code.specs.declared.code.Reason.{Reason}
use Rattle.core_code.specs.Tree.{Tree}
use Rattle.core_code.specs.Core.{Method}
use Rattle.core_lowering_rules.specs.Context.{Folder}
use Rattle.core_lowering_rules.specs.Methods.{Source, method_kinds}
use Rattle.core_lowering_rules.specs.Programs.{is_entry, method_core}
use Rattle.core_lowering_surveys.specs.Surveys.{code_in}

abbrev method_with : Source → Option Reason → List ℕ → List Kind → List Kind → Bool → Tree → Method
method_with s status name parameters variables entry code =
    record {
      class = s.info.class;
      name = name;
      place = s.info.place;
      parameters = parameters;
      result = s.info.result;
      variables = variables;
      is_static = s.info.is_static;
      entry = entry;
      main = s.info.main;
      status = status;
      code = code;
    }

pub method-made : (folder : Folder) (s : Source) (status : Option Reason) (name : List ℕ)
    (parameters variables : List Kind) (entry : Bool) (code : Tree) → name ≡ s.info.name →
    parameters ≡ s.info.parameters → variables ≡ method_kinds folder s → entry ≡ is_entry folder s.info status →
    code ≡ code_in folder s → method_with s status name parameters variables entry code ≡ method_core folder s status
method-made folder s status name parameters variables entry code a b c d e =
    same_5 (method_with s status) a b c d e
