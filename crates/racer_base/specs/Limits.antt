-- A contract of a public call rests on this: the law `limit_numbers`. The number of each limit of the analysis.
use Rattle.std.specs.Prelude.{◌≡◌, ◌*◌}
use Rattle.racer_base.specs.declared.limits.TheConstants.{MAX_PATH_FIELDS, MAX_SUMMARY_KEYS, MAX_WAY_STEPS}
use Rattle.racer_base.specs.declared.limits.TheConstants.{MAX_FILES, MAX_FILE_BYTES, MAX_FOLDER_BYTES}
use Rattle.racer_base.specs.declared.limits.TheConstants.{MAX_FOLDER_ENTRIES, MAX_FOLDER_NESTING}
use Rattle.racer_base.specs.declared.limits.TheConstants.{MAX_CLASSES, MAX_METHODS, MAX_CALL_EDGES}
use Rattle.racer_base.specs.declared.limits.TheConstants.{MAX_NESTING, MAX_BRACKET_NESTING}
use Rattle.racer_base.specs.declared.limits.TheConstants.{MAX_PARAMETERS, MAX_LOCALS, MIN_WORKERS, MAX_WORKERS}

-- at most so many of each, and of the workers at least one
pub record AreLimits : Type 0 where
  pub fields_of_a_path : MAX_PATH_FIELDS ≡ 16
  -- of different keys and of wobbly paths, so many each
  pub keys_of_a_summary : MAX_SUMMARY_KEYS ≡ 1024
  pub steps_of_a_way : MAX_WAY_STEPS ≡ 65536
  pub files : MAX_FILES ≡ 4096
  pub bytes_of_a_file : MAX_FILE_BYTES ≡ 1024 * 1024
  pub bytes_of_a_folder : MAX_FOLDER_BYTES ≡ 32 * 1024 * 1024
  pub entries_of_a_folder : MAX_FOLDER_ENTRIES ≡ 1024 * 1024
  pub nesting_of_folders : MAX_FOLDER_NESTING ≡ 64
  pub classes : MAX_CLASSES ≡ 2048
  pub methods : MAX_METHODS ≡ 4096
  pub call_edges : MAX_CALL_EDGES ≡ 65536
  pub nesting_of_a_tree : MAX_NESTING ≡ 200
  pub nesting_of_brackets : MAX_BRACKET_NESTING ≡ 200
  pub parameters : MAX_PARAMETERS ≡ 64
  pub other_locals : MAX_LOCALS ≡ 512
  pub fewest_workers : MIN_WORKERS ≡ 1
  pub most_workers : MAX_WORKERS ≡ 64
