-- No public contract rests on this: threads may share a program and the outcomes of its methods. First what a method
-- is, then the program, since a `search` that goes down through both at once runs out of steps.
use denote.Param.Send.{IsSync, sendable}
use Rattle.std.proofs.Crossing.{crosses}
use Rattle.core_code.specs.contracts.program.Program as Program
use Rattle.core_code.specs.contracts.parts.MethodCore as MethodCore
use Rattle.core_code.proofs.code.Code.TheLaws.TheKnot as knot
use Rattle.core_code.proofs.code.Op.TheSendSync as OpOf
use Rattle.core_code.proofs.code.Reason.TheSendSync as Reason
use Rattle.core_code.proofs.parts.ClassCore.TheSendSync as ClassCore
use Rattle.core_code.proofs.parts.FieldCore.TheSendSync as FieldCore
use Rattle.access_domain.proofs.summary.Outcome.TheSendSync as outcome
use Rattle.race_pairs.proofs.warning.Warning.TheSendSync as warning
use Rattle.racer_base.proofs.ids.ClassId.TheSendSync as ClassId
use Rattle.racer_base.proofs.ids.FieldId.TheSendSync as FieldId
use Rattle.racer_base.proofs.ids.FileId.TheSendSync as FileId
use Rattle.racer_base.proofs.ids.Kind.TheSendSync as Kind
use Rattle.racer_base.proofs.ids.MethodId.TheSendSync as MethodId
use Rattle.racer_base.proofs.ids.Place.TheSendSync as Place
use Rattle.racer_base.proofs.ids.SiteId.TheSendSync as SiteId
use Rattle.racer_base.proofs.ids.VarId.TheSendSync as VarId
use Rattle.racer_base.proofs.items.Items.TheSendSync as Items
use Rattle.racer_base.proofs.text.Text.TheSendSync as Text

ruleset parts = (
  sendable,
  crosses,
  knot.both_sync-Code,
  ClassId.the_field_sync,
  FieldId.the_field_sync,
  FileId.the_field_sync,
  Kind.the_field_sync,
  MethodId.the_field_sync,
  Place.the_field_sync,
  SiteId.the_field_sync,
  VarId.the_field_sync,
  Items.the_sync,
  Text.the_sync,
  OpOf.the_field_sync,
  Reason.the_field_sync,
  ClassCore.the_field_sync,
  FieldCore.the_field_sync,
)

method_sync : IsSync (MethodCore.the_field).row
method_sync = search parts depth 40 fits 20000

pub program_sync : IsSync (Program.the_field).row
program_sync = search (parts, method_sync) depth 40 fits 20000

pub ruleset shared = (
  sendable,
  crosses,
  program_sync,
  outcome.the_field_send,
  outcome.the_field_sync,
  warning.the_field_sync,
)
