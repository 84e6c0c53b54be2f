use Rattle.std.proofs.Common.{◌≡◌, ◌++◌, drop}
use Rattle.std.specs.List.{flat_map}
use Rattle.core_lowering_drafts.specs.Only.{cleared}
use Rattle.core_lowering_drafts.specs.Rooms.{room_behind}
use Rattle.core_lowering_drafts.specs.Written.{code_of, room_of}
use Rattle.core_lowering_drafts_code.proofs.only.write_cleared.Given as goal

abbrev pub invariant-loop-variable : goal.invariant-loop-variable
invariant-loop-variable l =
    record {
      code : code_of l.written ++ flat_map (cleared l.place) (drop l.variable-index l.variables)
          ≡ code_of l.fn.written ++ flat_map (cleared l.place) l.variables;
      room : room_behind (flat_map (cleared l.place) (drop l.variable-index l.variables)) (room_of l.written)
          ≡ room_behind (flat_map (cleared l.place) l.variables) (room_of l.fn.written);
    }
