-- Request E1: the calls are written as "kind, number, item, value". "Kinds are 1 to 6 in the order of the runner's words; unused
-- fields are 0." Request E6: "A new call (`settle number` in the runner, kind 7 in journals)", and request E11:
-- "(`relaxed` in the runner, kind 8 ..)". `fields_of` says this of each call;
-- `call_of` is the call whose fields words are, if there is one.
use Rattle.std.specs.Prelude.{ℕ, Bool, cond, ◌&&◌, List, [], ◌∷◌, eqb, leb, Option, Some, None}
use Rattle.rules.specs.Answers.{Call, BeginUpdate, BeginQuery, Read, Write, Commit, Abort, Settle, BeginRelaxed}
use Rattle.call_words.specs.declared.Fields.{Fields}

-- ---- the kinds, in the order of the runner's words

abbrev pub begin_update_kind : ℕ
begin_update_kind = 1

abbrev pub begin_query_kind : ℕ
begin_query_kind = 2

abbrev pub read_kind : ℕ
read_kind = 3

abbrev pub write_kind : ℕ
write_kind = 4

abbrev pub commit_kind : ℕ
commit_kind = 5

abbrev pub abort_kind : ℕ
abort_kind = 6

-- request E6
abbrev pub settle_kind : ℕ
settle_kind = 7

-- request E11
abbrev pub begin_relaxed_kind : ℕ
begin_relaxed_kind = 8

-- the last of them
abbrev pub last_kind : ℕ
last_kind = begin_relaxed_kind

-- "a known kind": from the first to the last
abbrev pub known_kind : ℕ → Bool
known_kind k = leb begin_update_kind k && leb k last_kind

-- ---- a call's four words

abbrev pub fields : ℕ → ℕ → ℕ → ℕ → Fields
fields k n x v = record { kind = k; number = n; item = x; value = v }

unfoldable pub fields_of : Call → Fields
fields_of BeginUpdate = fields begin_update_kind 0 0 0
fields_of BeginQuery = fields begin_query_kind 0 0 0
fields_of (Read n x) = fields read_kind n x 0
fields_of (Write n x v) = fields write_kind n x v
fields_of (Commit n) = fields commit_kind n 0 0
fields_of (Abort n) = fields abort_kind n 0 0
fields_of (Settle n) = fields settle_kind n 0 0
fields_of BeginRelaxed = fields begin_relaxed_kind 0 0 0

-- the numbers that it uses, in this order
abbrev pub numbers_of : Call → List ℕ
numbers_of BeginUpdate = []
numbers_of BeginQuery = []
numbers_of (Read n x) = n ∷ x ∷ []
numbers_of (Write n x v) = n ∷ x ∷ v ∷ []
numbers_of (Commit n) = n ∷ []
numbers_of (Abort n) = n ∷ []
numbers_of (Settle n) = n ∷ []
numbers_of BeginRelaxed = []

-- ---- four words as a call

-- the call of a known kind, with the words that it uses
unfoldable pub call_in : Fields → Call
call_in f =
    cond (eqb f.kind begin_update_kind) BeginUpdate
    (cond (eqb f.kind begin_query_kind) BeginQuery
    (cond (eqb f.kind read_kind) (Read f.number f.item)
    (cond (eqb f.kind write_kind) (Write f.number f.item f.value)
    (cond (eqb f.kind commit_kind) (Commit f.number)
    (cond (eqb f.kind abort_kind) (Abort f.number)
    (cond (eqb f.kind settle_kind) (Settle f.number)
    BeginRelaxed))))))

unfoldable pub same_fields : Fields → Fields → Bool
same_fields f g =
    eqb f.kind g.kind
    && (eqb f.number g.number && (eqb f.item g.item && eqb f.value g.value))

-- "a known kind, zeros in its unused fields": the words are those of the call that they say
unfoldable pub is_call : Fields → Bool
is_call f = same_fields f (fields_of (call_in f))

unfoldable pub call_of : Fields → Option Call
call_of f = cond (is_call f) (Some (call_in f)) None
