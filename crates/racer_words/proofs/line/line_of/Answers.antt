use Rattle.std.proofs.Common.{◌∙◌, codes}
use Rattle.clap.proofs.WalkLemmas.{first_value-rows, one_text-rows}
use Rattle.clap.specs.Matches.{found_of}
use Rattle.racer_words.proofs.GivenLines.{flag_is}
use Rattle.racer_words.proofs.line.line_of.Goals as goal

pub returns : goal.returns
returns c =
    let found = found_of c.args.matches.now in
    record {
      folder = c.get_str.ensures ∙ first_value-rows found (codes "FOLDER");
      workers = c.get_str-2.ensures ∙ first_value-rows found (codes "workers");
      replay = c.get_str-3.ensures ∙ first_value-rows found (codes "replay");
      made = c.get_str-4.ensures ∙ first_value-rows found (codes "made");
      edits = c.get_str-5.ensures ∙ first_value-rows found (codes "edits");
      json = λ b e. flag_is b c.get_flag.result _ c.get_flag.ensures.value c.get_flag.ensures.other
          (one_text-rows found (codes "json") ∙ e);
      summaries = λ b e. flag_is b c.get_flag-2.result _ c.get_flag-2.ensures.value c.get_flag-2.ensures.other
          (one_text-rows found (codes "summaries") ∙ e);
      history = λ b e. flag_is b c.get_flag-3.result _ c.get_flag-3.ensures.value c.get_flag-3.ensures.other
          (one_text-rows found (codes "history") ∙ e);
      containers = λ b e. flag_is b c.get_flag-4.result _ c.get_flag-4.ensures.value c.get_flag-4.ensures.other
          (one_text-rows found (codes "containers") ∙ e);
      typed = λ b e. flag_is b c.get_flag-5.result _ c.get_flag-5.ensures.value c.get_flag-5.ensures.other
          (one_text-rows found (codes "typed") ∙ e);
    }
