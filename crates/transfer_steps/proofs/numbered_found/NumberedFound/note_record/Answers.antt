use Rattle.access_paths.proofs.Numbers.{goes_on-same}
use Rattle.access_domain.proofs.NumberedReading.{numbered-still}
use Rattle.transfer_steps.proofs.FoundNumbers.{record-noted, record-full}
use Rattle.transfer_steps.proofs.numbered_found.NumberedFound.note_record.Goals as goal

pub returns-in-Added-clause-found : goal.returns-in-Added-clause-found
returns-in-Added-clause-found c = λ table once numbers low.
    record-noted table once c.args.self.now numbers c.args.access c.add.new.self c.add.result low c.add.ensures
    c.in-Added.is

pub returns-in-Added-clause-numbers : goal.returns-in-Added-clause-numbers
returns-in-Added-clause-numbers c = λ table once numbers low.
    record {
      records =
          numbered-still table table (goes_on-same table) once c.args.self.now.records c.add.new.self c.args.access
          c.add.result numbers.records low c.add.ensures c.in-Added.is;
      wobbly = numbers.wobbly;
      result = numbers.result;
    }

pub returns-in-Full-clause-found : goal.returns-in-Full-clause-found
returns-in-Full-clause-found c = λ table once numbers low.
    record-full table once c.args.self.now numbers c.args.access low c.in-Full.ensures.0 c.in-Full.ensures.1
