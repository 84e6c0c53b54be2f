-- A contract of a public call rests on this: `made`. The files of a made folder, one for each class; classes have
-- numbers from 0 on.
use Rattle.std.specs.Prelude.{ℕ, ◌+◌, ◌/◌, ◌%◌, ◌==◌, ◌||◌, if◌then◌else◌, Bool, List, [], ◌∷◌, ◌++◌, codes, map}
use Rattle.std.specs.List.{flat_map, range_with_len}

-- a number below ten thousand, in four digits; the digit zero is 48
abbrev pub four_digits : ℕ → List ℕ
four_digits n = (48 + n / 1000) ∷ (48 + n / 100 % 10) ∷ (48 + n / 10 % 10) ∷ (48 + n % 10) ∷ []

abbrev pub class_name : ℕ → List ℕ
class_name k = codes "C" ++ four_digits k

abbrev pub file_name : ℕ → List ℕ
file_name k = class_name k ++ codes ".java"

-- a class is the last of its group where the number behind it is a multiple of ten, or how many classes there are
abbrev pub is_last : ℕ → ℕ → Bool
is_last number k = ((k + 1) % 10 == 0) || (k + 1 == number)

-- these lines, with a line feed behind each
abbrev pub text_of : List (List ℕ) → List ℕ
text_of lines = flat_map (λ line. line ++ codes "\n") lines

-- the text of a class that is the last of its group
abbrev pub last_text : List ℕ → List ℕ
last_text class = text_of (
    codes "@ThreadSafe"
    ∷ (codes "class " ++ class ++ codes " {")
    ∷ codes "  int a;"
    ∷ codes "  void set() { this.a = 1; }"
    ∷ codes "  synchronized int get() { return this.a; }"
    ∷ codes "  int deep() { return this.a; }"
    ∷ codes "}"
    ∷ [])

-- the text of a class that is not the last of its group, with the next class
abbrev pub linked_text : List ℕ → List ℕ → List ℕ
linked_text class next = text_of (
    codes "@ThreadSafe"
    ∷ (codes "class " ++ class ++ codes " {")
    ∷ codes "  int a;"
    ∷ (codes "  " ++ next ++ codes " next;")
    ∷ codes "  void set() { this.a = 1; }"
    ∷ codes "  synchronized int get() { return this.a; }"
    ∷ codes "  int deep() { return this.next.deep(); }"
    ∷ (codes "  void link(" ++ next ++ codes " n) { this.next = n; this.next.a = 2; }")
    ∷ codes "}"
    ∷ [])

abbrev pub class_text : ℕ → ℕ → List ℕ
class_text number k =
    if is_last number k then last_text (class_name k) else linked_text (class_name k) (class_name (k + 1))

-- the file of a class, its name and its bytes
abbrev pub made_file : ℕ → ℕ → List ℕ × List ℕ
made_file number k = (file_name k, class_text number k)

-- the files of a folder of this number of classes
abbrev pub made_files : ℕ → List (List ℕ × List ℕ)
made_files number = map (made_file number) (range_with_len 0 number)
