-- A vCPU's waiting list (document 02, T-13): 64 places in a ring, for the vectors that can't be delivered yet.
use Rattle.std.specs.Prelude.{ℕ, zero, suc, ◌+◌, ◌-◌, ◌/◌, ◌%◌, Bool, true, false, cond, ◌||◌, List, [], ◌∷◌, ◌++◌, ltb, leb, eqb, length, get_or, drop, replicate}
use Rattle.types.specs.declared.Refusal.TheVariants.{ListFull}
use Rattle.types.specs.declared.Reply.{Reply}
use Rattle.types.specs.declared.Reply.TheVariants.{Refused, Nothing, One}
use Rattle.types.specs.declared.Vector.{Vector}
use Rattle.types.specs.Reply.{Outcome, outcome_of}

-- ---- a list

pub record Waiting : Type 0 where
  pub head : ℕ  -- the place where the oldest stands, or the next one would
  pub waiting : List ℕ  -- the vectors that wait, the oldest first
  pub free : List ℕ  -- what stands in the other places, from the one behind the youngest on: nothing that waits
  pub head_rest : ℕ  -- what the byte for the head has beyond a place
  pub count_rest : ℕ  -- what the byte for the count has beyond 64

-- ---- which list 66 bytes are: 64 places, the head, and how many wait. Any bytes are one: a head is taken modulo 64, and a count above 64 is 64

-- the places from h on, n of them, around the ring
abbrev pub around : List ℕ → ℕ → ℕ → List ℕ
around l h zero = []
around l h (suc n) = get_or l (h % 64) 0 ∷ around l (suc h) n

abbrev pub size_of : ℕ → ℕ
size_of count = cond (ltb count 64) count 64

unfoldable pub list_of : List ℕ → ℕ → ℕ → Waiting
list_of l head count = record {
  head = head % 64;
  waiting = around l head (size_of count);
  free = around l (head + size_of count) (64 - size_of count);
  head_rest = head / 64;
  count_rest = count - 64;
}

unfoldable pub view : List ℕ → Waiting
view l = list_of l (get_or l 64 0) (get_or l 65 0)

-- ---- the calls

-- a new list: nothing waits
unfoldable pub new_list : Waiting
new_list = record { head = 0; waiting = []; free = replicate 64 0; head_rest = 0; count_rest = 0 }

abbrev pub is_full : Waiting → Bool
is_full q = leb 64 (length q.waiting)

-- behind the youngest, in the first of the free places
unfoldable pub taken : Waiting → Vector → Waiting
taken q v = record {
  head = q.head;
  waiting = q.waiting ++ (v.0 ∷ []);
  free = drop 1 q.free;
  head_rest = q.head_rest;
  count_rest = q.count_rest;
}

-- without the oldest: its place is free, the last one around, and is cleared
unfoldable pub delivered : Waiting → Waiting
delivered q = record {
  head = (q.head + 1) % 64;
  waiting = drop 1 q.waiting;
  free = q.free ++ (0 ∷ []);
  head_rest = 0;
  count_rest = 0;
}

abbrev pub among : ℕ → List ℕ → Bool
among v [] = false
among v (w ∷ l) = eqb w v || among v l

-- without the first that equals v
abbrev pub removed : ℕ → List ℕ → List ℕ
removed v [] = []
removed v (w ∷ l) = cond (eqb w v) l (w ∷ removed v l)

-- without the oldest of a vector: the younger ones move up by a place, and the last one's is free and cleared
unfoldable pub cancelled : Waiting → Vector → Waiting
cancelled q v = record {
  head = q.head;
  waiting = removed v.0 q.waiting;
  free = 0 ∷ q.free;
  head_rest = q.head_rest;
  count_rest = 0;
}

-- an interrupt is taken in: refused with 9 exactly when 64 wait
abbrev pub take : Waiting → Vector → Outcome Waiting
take q v = cond (is_full q) (outcome_of q (Refused ListFull)) (outcome_of (taken q v) Nothing)

-- the oldest is delivered: its vector, or nothing
abbrev pub oldest : List ℕ → Reply
oldest [] = Nothing
oldest (v ∷ l) = One v

abbrev pub is_empty : List ℕ → Bool
is_empty [] = true
is_empty (v ∷ l) = false

abbrev pub deliver : Waiting → Outcome Waiting
deliver q = cond (is_empty q.waiting) (outcome_of q Nothing) (outcome_of (delivered q) (oldest q.waiting))

-- the oldest of a vector is cancelled: the vector, or nothing where none waits
abbrev pub cancel : Waiting → Vector → Outcome Waiting
cancel q v = cond (among v.0 q.waiting) (outcome_of (cancelled q v) (One v.0)) (outcome_of q Nothing)

-- how many wait
abbrev pub count : Waiting → Outcome Waiting
count q = outcome_of q (One (length q.waiting))

-- the vector that waits behind k others, or nothing
abbrev pub peek : Waiting → ℕ → Outcome Waiting
peek q k = outcome_of q (oldest (drop k q.waiting))
