-- The code for the ends that are asked for has the paths of the draft that end by these.
use Rattle.std.proofs.Common.{◌≡◌, true, [], ◌∷◌, refl, ap, ◌∙◌}
use Rattle.core_lowering_drafts.specs.Drafts.{Normal, Return, Ends, without, meets}
use Rattle.core_lowering_drafts.specs.Drafts.{Part, Draft, Op, Choice, Loop, Sync, Leave, Within, Never, Ending, Behind}
use Rattle.core_lowering_drafts.specs.Drafts.{no_part, part_then, part_ends, ends}
use Rattle.core_lowering_drafts.specs.Paths.{Paths, cut_end, read, IsOne, IsThen, IsPathOfPart, IsPath, ArePathsKept}
use Rattle.core_lowering_drafts.specs.Only.{Rest, Last, alone, only_part, onto}
use Rattle.core_lowering_drafts.proofs.Unmet.{alone-met}
use Rattle.core_lowering_drafts.proofs.Exact.{part-exact, draft-exact}
use Rattle.core_lowering_drafts.proofs.Alike.{itself, turned, nothing-then, then-nothing, three}
use Rattle.core_lowering_drafts.proofs.Rests.{IsRest, IsKept, rest-kept, rest-alike, some-path, before-kept}
use Rattle.core_lowering_drafts.proofs.LoopCode.{looped-kept}
use Rattle.core_lowering_drafts.proofs.PartCode.{op-kept, leave-kept, choice-kept, within-kept, ending-kept, sync-kept}
use Rattle.core_lowering_drafts.proofs.Stops.{draft-stops}
use Rattle.core_lowering_drafts.proofs.BehindCode.{behind-kept}

pub record IsKeptPart (part : Part) : Type 1 where
  pub kept : IsKept (only_part part) (part_ends part) (IsPathOfPart part)

-- whatever stands behind
pub record IsKeptDraft (draft : Draft) : Type 1 where
  pub before : (asked : Ends) (rest : Rest) (R : Paths) → IsRest R asked rest →
      IsRest (IsThen (IsPath draft) R) asked (onto draft asked rest)

abbrev Nothing : Paths
Nothing = IsOne [] Normal

-- a draft that nothing stands behind
module _ (draft : Draft) (known : IsKeptDraft draft) where
  alone-rest : (asked : Ends) → IsRest (IsPath draft) asked (onto draft asked Last)
  alone-rest asked = rest-alike (IsThen (IsPath draft) Nothing) (IsPath draft) asked (onto draft asked Last)
      (then-nothing (IsPath draft)) (known.before asked Last Nothing (itself Nothing))

  alone-kept : IsKept (alone (onto draft)) (ends draft) (IsPath draft)
  alone-kept asked h = rest-kept (IsPath draft) asked (onto draft asked Last) (alone-rest asked)
      (alone-met draft asked ∙ h)

mutual
  part-kept : (part : Part) → IsKeptPart part
  part-kept (Op place op) = record { kept = op-kept place op }
  part-kept (Choice left right) = record {
    kept = choice-kept (alone (onto left)) (alone (onto right)) (ends left) (ends right) (IsPath left) (IsPath right)
        (draft-exact left) (draft-exact right) (alone-kept left (draft-kept left))
        (alone-kept right (draft-kept right));
  }
  part-kept (Loop body) = record {
    kept = looped-kept body (alone (onto body)) (IsPath body) (draft-exact body) (alone-kept body (draft-kept body));
  }
  part-kept (Sync lock body) = record {
    kept = sync-kept lock (ends body) (IsPath body) (alone (onto body)) (alone-kept body (draft-kept body));
  }
  part-kept (Leave k) = record { kept = leave-kept k }
  part-kept (Within k body) = record {
    kept = λ asked. within-kept k (ends body) (IsPath body) (draft-exact body) asked (alone (onto body))
        (alone-kept body (draft-kept body));
  }
  part-kept Never = record { kept = λ asked h. absurd cc }
  part-kept (Ending body place variables) = record {
    kept = ending-kept (ends body) (IsPath body) (alone (onto body)) (alone-kept body (draft-kept body)) place
        variables;
  }
  part-kept (Behind body finally k last) = record {
    kept = λ asked h. behind-kept (IsPath body) (IsPath finally) (IsPath last) k (ends body) (draft-exact body)
        (λ q path. draft-stops body q Return path refl) asked
        (onto finally asked (onto last asked Last)) (onto finally (Normal ∷ asked) Last)
        (onto finally (without Normal asked) Last)
        ((draft-kept finally).before asked (onto last asked Last) (IsPath last)
        (alone-rest last (draft-kept last) asked))
        (alone-rest finally (draft-kept finally) (Normal ∷ asked))
        (alone-rest finally (draft-kept finally) (without Normal asked))
        (alone (onto body)) (alone-kept body (draft-kept body))
        (some-path (part_ends (Behind body finally k last)) (IsPathOfPart (Behind body finally k last))
        (part-exact (Behind body finally k last)) asked h);
  }

  draft-kept : (draft : Draft) → IsKeptDraft draft
  draft-kept no_part = record {
    before = λ asked rest R i. rest-alike R (IsThen Nothing R) asked rest (turned (nothing-then R)) i;
  }
  draft-kept (part_then part more) = record {
    before = λ asked rest R i. rest-alike (IsThen (IsPathOfPart part) (IsThen (IsPath more) R))
        (IsThen (IsPath (part_then part more)) R) asked (onto (part_then part more) asked rest)
        (turned (three (IsPathOfPart part) (IsPath more) R))
        (before-kept (only_part part) (part_ends part) (IsPathOfPart part) (IsThen (IsPath more) R) (part-exact part)
        (part-kept part).kept asked (onto more asked rest) ((draft-kept more).before asked rest R i));
  }

pub paths-kept : (draft : Draft) (asked : Ends) → meets draft asked ≡ true → ArePathsKept draft asked
paths-kept draft asked h p e =
    let same = alone-kept draft (draft-kept draft) asked h in (
      (λ t. same.there p e (record {
        whole = t.0;
        from = t.4.0;
        is_asked = t.4.1;
        path = t.4.3;
        steps = t.2;
        end = t.3 ∙ ap (cut_end t.0) t.4.2;
      })),
      (λ t. let b = same.back p e t in (b.whole, read b.from, b.steps, b.end, (b.from, b.is_asked, refl, b.path))),
    )
