-- An answer record read back: its fields in turn, then the result that they say.
use Rattle.std.specs.Prelude.{cond, List, [], ◌∷◌, ℕ, zero, suc, length, take, drop, get_or, eqb, Ok, None, Some, Err}
use Rattle.arithmetic.specs.Outcome.{Outcome}
use Rattle.arithmetic.specs.declared.refusal.Refusal.TheVariants.{MalformedRecord, UnknownMethod, SizeOutOfRange, MatrixLength, BufferLength, IndexOutOfRange, NotFinite, Unsymmetric, StoredNotFinite, FieldPastEnd, TagNotDue, NumbersLength, NumberRepeated, ListLength, ZeroDiagonal}
use Rattle.methods.specs.Result.{Result}
use Rattle.methods.specs.Marks.{Mark}
use Rattle.encoding.specs.Bytes.{low_first, doubles}

pub record Field : Type 0 where
  pub tag : ℕ
  pub content : List ℕ

-- the fields that bytes are, at most k
unfoldable pub split : ℕ → List ℕ → List Field
unfolding low_first
split zero b = []
split (suc k) [] = []
split (suc k) (tag ∷ b) = let len = low_first (take 2 b) in record { tag = tag; content = take len (drop 2 b) } ∷ split k (drop len (drop 2 b))

-- the content of the first field with a tag
abbrev pub content_of : ℕ → List Field → List ℕ
content_of tag [] = []
content_of tag (f ∷ fs) = cond (eqb f.tag tag) f.content (content_of tag fs)

abbrev pub byte_of : ℕ → ℕ → List Field → ℕ
byte_of tag k fs = get_or (content_of tag fs) k 0

-- what a refusal number and a place name
abbrev pub outcome_read : ℕ → ℕ → ℕ → Outcome
outcome_read refusal row column =
    get_or (Ok tt ∷ Err MalformedRecord ∷ Err UnknownMethod ∷ Err SizeOutOfRange ∷ Err MatrixLength ∷ Err BufferLength ∷ Err (IndexOutOfRange row) ∷ Err (NotFinite row column) ∷ Err (Unsymmetric row column) ∷ Err (StoredNotFinite row) ∷ Err (FieldPastEnd row) ∷ Err (TagNotDue row) ∷ Err NumbersLength ∷ Err (NumberRepeated row) ∷ Err ListLength ∷ Err (ZeroDiagonal row) ∷ []) refusal (Ok tt)

abbrev pub mark_read : ℕ → Mark
mark_read v = cond (eqb v 0xff) None (Some v)

abbrev pub result_read : List Field → Result
result_read fs = record {
  decomposition = record { outcome = outcome_read (byte_of 0x11 0 fs) (byte_of 0x17 0 fs) (byte_of 0x17 1 fs); tied = mark_read (byte_of 0x12 0 fs); phase2 = mark_read (byte_of 0x13 0 fs); inexact = byte_of 0x18 0 fs };
  l = doubles (content_of 0x16 fs);
  e = doubles (content_of 0x15 fs);
  p = content_of 0x14 fs;
}

unfoldable pub read_answer : List ℕ → Result
unfolding split doubles
read_answer b = result_read (split (length b) b)
