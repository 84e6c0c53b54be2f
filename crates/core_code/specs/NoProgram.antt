-- No public contract rests on this: the program without anything, which a run is for until it has a name.
use Rattle.std.specs.Prelude.{[], refl}
use Rattle.core_code.specs.declared.program.Program.{Program}

abbrev pub no_program : Program
no_program =
    record {
      parts = record { files = []; skipped = []; classes = []; fields = []; methods = [] };
      numbers_in_range = refl;
      sites_in_order = refl;
      entries_analysed = refl;
      stacks_enough = refl;
      ends_by_return = refl;
      calls_right = refl;
      ranks_there = refl;
      kinded = refl;
      names_right = refl;
      classes_differ = refl;
      fields_differ = refl;
      methods_differ = refl;
      parameters_few = refl;
    }
