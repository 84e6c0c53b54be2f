-- No public contract rests on this. A finished method may go to another thread: first its program, then its outcome,
-- then itself, since a `search` that goes down through all of them at once runs out of steps.
use denote.Param.Send.{IsSend, IsSync, sendable}
use Rattle.std.proofs.Crossing.{crosses}
use Rattle.core_code.specs.contracts.program.Program as Program
use Rattle.core_code.specs.contracts.parts.MethodCore as MethodCore
use Rattle.transfer.specs.contracts.finished.Finished as Finished
use Rattle.core_code.proofs.code.Code.TheLaws.TheKnot as knot
use Rattle.access_domain.proofs.summary.Outcome.TheSendSync as outcome
use Rattle.racer_base.proofs.ids.ClassId.TheSendSync as ClassId
use Rattle.racer_base.proofs.ids.FieldId.TheSendSync as FieldId
use Rattle.racer_base.proofs.ids.FileId.TheSendSync as FileId
use Rattle.racer_base.proofs.ids.Kind.TheSendSync as Kind
use Rattle.racer_base.proofs.ids.MethodId.TheSendSync as MethodId
use Rattle.racer_base.proofs.ids.Place.TheSendSync as Place
use Rattle.racer_base.proofs.ids.SiteId.TheSendSync as SiteId
use Rattle.racer_base.proofs.ids.VarId.TheSendSync as VarId
use Rattle.racer_base.proofs.items.Items.TheSendSync as Items
use Rattle.racer_base.proofs.text.Text.TheSendSync as Text
use Rattle.core_code.proofs.code.Op.TheSendSync as OpOf
use Rattle.core_code.proofs.code.Reason.TheSendSync as Reason
use Rattle.core_code.proofs.parts.ClassCore.TheSendSync as ClassCore
use Rattle.core_code.proofs.parts.FieldCore.TheSendSync as FieldCore

pub ruleset parts = (
  sendable,
  crosses,
  knot.both_send-Code,
  knot.both_sync-Code,
  ClassId.the_field_send,
  ClassId.the_field_sync,
  FieldId.the_field_send,
  FieldId.the_field_sync,
  FileId.the_field_send,
  FileId.the_field_sync,
  Kind.the_field_send,
  Kind.the_field_sync,
  MethodId.the_field_send,
  MethodId.the_field_sync,
  Place.the_field_send,
  Place.the_field_sync,
  SiteId.the_field_send,
  SiteId.the_field_sync,
  VarId.the_field_send,
  VarId.the_field_sync,
  Items.the_send,
  Items.the_sync,
  Text.the_send,
  Text.the_sync,
  OpOf.the_field_send,
  OpOf.the_field_sync,
  Reason.the_field_send,
  Reason.the_field_sync,
  ClassCore.the_field_send,
  ClassCore.the_field_sync,
  FieldCore.the_field_send,
  FieldCore.the_field_sync,
)

pub method_send : IsSend (MethodCore.the_field).row
method_send = search parts depth 40 fits 20000

pub method_sync : IsSync (MethodCore.the_field).row
method_sync = search parts depth 40 fits 20000

pub ruleset movable = (parts, method_send, method_sync, outcome.the_field_send, outcome.the_field_sync)

pub finished_send : IsSend (Finished.the_field).row
finished_send = search movable depth 40 fits 20000

pub finished_sync : IsSync (Finished.the_field).row
finished_sync = search movable depth 40 fits 20000

pub program_send : IsSend (Program.the_field).row
program_send = search movable depth 40 fits 20000

pub program_sync : IsSync (Program.the_field).row
program_sync = search movable depth 40 fits 20000
