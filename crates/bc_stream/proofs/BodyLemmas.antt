-- Blocks, read piece by piece.
use Rattle.std.proofs.Common.{◌≡◌, ℕ, zero, suc, ◌*◌, ◌/◌, ◌%◌, ◌^◌, ◌<◌, ◌≤◌, ◌↔◌, ◌⊎◌, List, [], ◌∷◌, ◌++◌, length, drop, get_or, Result, Ok, Err, MatchResult, refl, sym, ap, ◌∙◌, subst, inl, inr, arith}
use Rattle.std.specs.List.{All, flat_map}
use Rattle.std.proofs.Math.Nat.{pow-suc}
use Rattle.std.proofs.lemmas.Grind.{flat_map-append}
use Rattle.std.proofs.lemmas.List.{append-nil}
use Rattle.std.proofs.lemmas.List.Elements.{All-nil, All-cons, All-head, All-tail, All-append}
use Rattle.bc_stream.specs.declared.block.BlockTree.{BlockTree}
use Rattle.bc_stream.specs.declared.fault.StreamFault.{StreamFault}
use Rattle.bc_stream.specs.declared.fault.StreamFault.TheVariants.{Bad, Memory}
use Rattle.bc_stream.specs.declared.piece.Piece.{Piece}
use Rattle.bc_stream.specs.declared.piece.Piece.TheVariants.{Leave, Enter, Record}
use Rattle.bc_stream.specs.declared.piece.Scope.{Scope}
use Rattle.bc_stream.specs.declared.read.Body.{Body}
use Rattle.bc_stream.specs.Bits.{low_bits, bits_of}
use Rattle.bc_stream.specs.Blocks.{Contents, no_more, a_record, a_block, append, parts_contents, contents_of}
use Rattle.bc_stream.specs.Spelling.{Raw, raw_leave, raw_enter, raw_record, Frame, State, frames_after, outer, Good, Leads, Shown, shown_leave, shown_enter, shown_record, shown, shown_of, start, Spelled, Faulty}
use Rattle.bc_stream.specs.Faults.{IsBad}
use Rattle.bc_stream.specs.Reading.{place_in}
use Rattle.bc_stream.specs.Pieces.{state_in, Knows, LeaveAt, EnterAt, EntryAt, PieceAt}
use Rattle.bc_stream.specs.Bodies.{Shows, FaultBeyond, FaultFrom, PartsAt, BodyAt, BlockAt, BlocksAt}
use Rattle.bc_stream.proofs.BitLemmas.{low_bits-none, low_bits-more, bits_of-none, bits_of-more}
use Rattle.bc_stream.proofs.ReaderLemmas.{drop_bytes}
use Rattle.bc_stream.proofs.SpellingLaw.{one_list, one_fault, no_fault}
use Rattle.bc_stream.proofs.WroteAllLemmas.{leads_append, shown_of-append}

-- ---- pieces one after another

shows_then : (a b : List Shown) (from middle to : State) → Shows a middle from → Shows b to middle → Shows (a ++ b) to from
shows_then a b from middle to p q = record {
  pieces = p.pieces ++ q.pieces;
  leads = leads_append p.pieces q.pieces from middle to p.leads q.leads;
  shows = flat_map-append shown p.pieces q.pieces ∙ (ap (λ l. l ++ flat_map shown q.pieces) p.shows ∙ ap (λ l. a ++ l) q.shows);
}

shows_same : (a b : List Shown) (from to : State) → a ≡ b → Shows a to from → Shows b to from
shows_same a b from to is p = subst (λ l. Shows l to from) is p

-- one good piece
shows_one : (bytes : List ℕ) (frames : List Frame) (raw : Raw) (at to : ℕ) → Good (state_in bytes frames at) raw (place_in bytes to) →
    Shows (shown raw) (state_in bytes (frames_after frames raw (place_in bytes to)) to) (state_in bytes frames at)
shows_one bytes frames raw at to good = record {
  pieces = raw ∷ [];
  leads = record { behind = place_in bytes to; good = good; rest = refl };
  shows = append-nil (shown raw);
}

beyond_after : (what : List Shown) (from middle : State) (kind bit : ℕ) → Shows what middle from → FaultBeyond middle kind bit → FaultBeyond from kind bit
beyond_after what from middle kind bit p q = record {
  pieces = p.pieces ++ q.pieces;
  state = q.state;
  leads = leads_append p.pieces q.pieces from middle q.state p.leads q.leads;
  goes_on = q.goes_on;
  here = q.here;
  at = q.at;
}

-- ---- the body of a block

pub no_parts_at : (bytes : List ℕ) (scope : Scope) (from : ℕ) (parts : Contents) → parts ≡ no_more → from ≤ 8 * length bytes → PartsAt bytes scope from parts from
no_parts_at bytes scope from parts none within = record {
  reads = λ frames knows. record { pieces = []; leads = refl; shows = ap shown_of (sym none) };
  forward = omega arith;
  within = within;
}

pub entry_more : (bytes : List ℕ) (scope : Scope) (from at code to : ℕ) (values : List ℕ) (old new : Contents) → PartsAt bytes scope from old at → EntryAt bytes scope at code values to →
    new ≡ append old (a_record code values no_more) → PartsAt bytes scope from new to
entry_more bytes scope from at code to values old new p e put = record {
  reads = λ frames knows.
      shows_same (shown_of old ++ shown_record code values ∷ []) (shown_of new) (state_in bytes frames from) (state_in bytes frames to)
      (sym (ap shown_of put ∙ shown_of-append old (a_record code values no_more)))
      (shows_then (shown_of old) (shown_record code values ∷ []) (state_in bytes frames from) (state_in bytes frames at) (state_in bytes frames to)
      (p.reads frames knows) (shows_one bytes frames (raw_record code values) at to (e.good frames knows)));
  forward = omega (arith, p.forward, e.forward);
  within = e.within;
}

-- the open blocks inside a block
inner_frames : (bytes : List ℕ) (scope inner : Scope) (at id to : ℕ) (frames : List Frame) → (e : EnterAt bytes scope at id inner to) → Knows scope frames →
    Knows inner (frames_after frames (raw_enter id inner.width e.words) (place_in bytes to))
inner_frames bytes scope inner at id to frames e knows = record {
  levels-is = omega (arith, e.levels-is, knows.levels-is);
  width-is = refl;
  ends-is = sym e.ends-is;
}

-- a block from its head to its end
block_shows : (bytes : List ℕ) (scope inner : Scope) (at id to : ℕ) (body : Body) (frames : List Frame) → EnterAt bytes scope at id inner to → BodyAt bytes inner to body → Knows scope frames →
    Shows (shown_of (a_block id (parts_contents body.parts) no_more)) (state_in bytes frames body.to) (state_in bytes frames at)
block_shows bytes scope inner at id to body frames e b knows =
    let raw = raw_enter id inner.width e.words in
    let within = frames_after frames raw (place_in bytes to) in
    shows_then (shown_enter id ∷ []) (shown_of (parts_contents body.parts) ++ shown_leave ∷ []) (state_in bytes frames at) (state_in bytes within to) (state_in bytes frames body.to)
    (shows_one bytes frames raw at to (e.good frames knows))
    (b.reads within (inner_frames bytes scope inner at id to frames e knows))

pub block_more : (bytes : List ℕ) (scope inner : Scope) (from at id to : ℕ) (body : Body) (old new : Contents) → PartsAt bytes scope from old at → EnterAt bytes scope at id inner to → BodyAt bytes inner to body →
    new ≡ append old (a_block id (parts_contents body.parts) no_more) → PartsAt bytes scope from new body.to
block_more bytes scope inner from at id to body old new p e b put =
    let block = a_block id (parts_contents body.parts) no_more in
    record {
      reads = λ frames knows.
          shows_same (shown_of old ++ shown_of block) (shown_of new) (state_in bytes frames from) (state_in bytes frames body.to)
          (sym (ap shown_of put ∙ shown_of-append old block))
          (shows_then (shown_of old) (shown_of block) (state_in bytes frames from) (state_in bytes frames at) (state_in bytes frames body.to)
          (p.reads frames knows) (block_shows bytes scope inner at id to body frames e b knows));
      forward = omega (arith, p.forward, e.forward, b.forward);
      within = b.within;
    }

pub body_whole : (bytes : List ℕ) (scope : Scope) (from at : ℕ) (body : Body) → PartsAt bytes scope from (parts_contents body.parts) at → LeaveAt bytes scope at body.to → BodyAt bytes scope from body
body_whole bytes scope from at body p e = record {
  reads = λ frames knows.
      shows_then (shown_of (parts_contents body.parts)) (shown_leave ∷ []) (state_in bytes frames from) (state_in bytes frames at) (state_in bytes (outer frames) body.to)
      (p.reads frames knows) (shows_one bytes frames raw_leave at body.to (e.good frames knows));
  on_word = e.on_word;
  forward = omega (arith, p.forward, e.forward);
  within = e.within;
}

-- the fault inside a block
enter_fault : (bytes : List ℕ) (scope inner : Scope) (at id to kind bit : ℕ) (frames : List Frame) → EnterAt bytes scope at id inner to → FaultFrom bytes inner to (Bad kind bit) → Knows scope frames →
    FaultBeyond (state_in bytes frames at) kind bit
enter_fault bytes scope inner at id to kind bit frames e h knows =
    let raw = raw_enter id inner.width e.words in
    let within = frames_after frames raw (place_in bytes to) in
    beyond_after (shown_enter id ∷ []) (state_in bytes frames at) (state_in bytes within to) kind bit
    (shows_one bytes frames raw at to (e.good frames knows))
    (h within (inner_frames bytes scope inner at id to frames e knows))

pub block_fault : (bytes : List ℕ) (scope inner : Scope) (from at id to : ℕ) (parts : Contents) (fault : StreamFault) → PartsAt bytes scope from parts at → EnterAt bytes scope at id inner to →
    FaultFrom bytes inner to fault → FaultFrom bytes scope from fault
block_fault bytes scope inner from at id to parts (Bad kind bit) p e h = λ frames knows.
    beyond_after (shown_of parts) (state_in bytes frames from) (state_in bytes frames at) kind bit (p.reads frames knows)
    (enter_fault bytes scope inner at id to kind bit frames e h knows)
block_fault bytes scope inner from at id to parts Memory p e h = tt

-- ---- outermost blocks

pub outermost_at : (bytes : List ℕ) (scope inner : Scope) (at id to : ℕ) (body : Body) (old new : Contents) → Knows scope [] → EnterAt bytes scope at id inner to → BodyAt bytes inner to body →
    new ≡ append old (a_block id (parts_contents body.parts) no_more) → BlockAt bytes at old new body.to
outermost_at bytes scope inner at id to body old new knows e b put = record {
  id = id;
  inner = parts_contents body.parts;
  put = put;
  reads = block_shows bytes scope inner at id to body [] e b knows;
  on_word = b.on_word;
  forward = omega (arith, e.forward, b.forward);
  within = b.within;
}

pub outermost_inner : (bytes : List ℕ) (scope inner : Scope) (at id to : ℕ) (fault : StreamFault) → EnterAt bytes scope at id inner to → FaultFrom bytes inner to fault → FaultFrom bytes scope at fault
outermost_inner bytes scope inner at id to (Bad kind bit) e h = λ frames knows. enter_fault bytes scope inner at id to kind bit frames e h knows
outermost_inner bytes scope inner at id to Memory e h = tt

-- outside all blocks a good piece is the head of a block
no_leave_outside : (bytes : List ℕ) (scope : Scope) (at to : ℕ) → Knows scope [] → LeaveAt bytes scope at to → ⊥
no_leave_outside bytes scope at to knows e = let g = e.good [] knows in g.has_none 7 (inl (refl, refl))

no_record_outside : (bytes : List ℕ) (scope : Scope) (at code to : ℕ) (values : List ℕ) → Knows scope [] → EntryAt bytes scope at code values to → ⊥
no_record_outside bytes scope at code to values knows e = let g = e.good [] knows in g.has_none 7 (inl (refl, refl))

pub only_heads_outside : (bytes : List ℕ) (scope : Scope) (at : ℕ) (piece : Piece) → Knows scope [] → PieceAt bytes scope at piece → ((id : ℕ) (inner : Scope) (to : ℕ) → piece ≡ Enter id inner to → ⊥) → ⊥
only_heads_outside bytes scope at (Leave to) knows p other = no_leave_outside bytes scope at to knows p
only_heads_outside bytes scope at (Enter id inner to) knows p other = other id inner to refl
only_heads_outside bytes scope at (Record code values to) knows p other = no_record_outside bytes scope at code to values knows p

pub knows_outside : (scope : Scope) → scope.levels ≡ 0 → scope.width ≡ 2 → scope.ends ≡ 0 → Knows scope []
knows_outside scope none width ends = record { levels-is = sym none; width-is = sym width; ends-is = sym ends }

pub blocks_more : (bytes : List ℕ) (at to : ℕ) (old new : Contents) → BlocksAt bytes old at → BlockAt bytes at old new to → BlocksAt bytes new to
blocks_more bytes at to old new p b =
    let block = a_block b.id b.inner no_more in
    record {
      reads = shows_same (shown_of old ++ shown_of block) (shown_of new) (state_in bytes [] 32) (state_in bytes [] to)
          (sym (ap shown_of b.put ∙ shown_of-append old block))
          (shows_then (shown_of old) (shown_of block) (state_in bytes [] 32) (state_in bytes [] at) (state_in bytes [] to) p.reads b.reads);
      on_word = b.on_word;
      within = b.within;
    }

-- ---- the whole

-- the first piece begins behind the magic number
starts : (bytes : List ℕ) → state_in bytes [] 32 ≡ start (drop 4 bytes)
starts bytes = λ i. record { frames = []; place = record { at = 32; left = drop_bytes 4 bytes i } }

pub blocks_spelled : (bytes : List ℕ) (blocks : Contents) (at : ℕ) → bytes ≡ 66 ∷ 67 ∷ 192 ∷ 222 ∷ drop 4 bytes → BlocksAt bytes blocks at → All (λ bit. bit ≡ 0) (drop at (bits_of bytes)) → Spelled bytes blocks
blocks_spelled bytes blocks at magic p zeros = record {
  behind = drop 4 bytes;
  magic = magic;
  pieces = p.reads.pieces;
  end = state_in bytes [] at;
  leads = subst (Leads p.reads.pieces (state_in bytes [] at)) (starts bytes) p.reads.leads;
  ends = record { closed = refl; zeros = zeros };
  shows = p.reads.shows;
}

pub blocks_fault : (bytes : List ℕ) (scope : Scope) (blocks : Contents) (at : ℕ) (fault : StreamFault) → bytes ≡ 66 ∷ 67 ∷ 192 ∷ 222 ∷ drop 4 bytes → Knows scope [] → BlocksAt bytes blocks at → FaultFrom bytes scope at fault → IsBad bytes fault
blocks_fault bytes scope blocks at (Bad kind bit) magic knows p h =
    let b = beyond_after (shown_of blocks) (state_in bytes [] 32) (state_in bytes [] at) kind bit p.reads (h [] knows) in
    inr (record {
      behind = drop 4 bytes;
      magic = magic;
      pieces = b.pieces;
      from = b.state;
      leads = subst (Leads b.pieces b.state) (starts bytes) b.leads;
      goes_on = b.goes_on;
      here = b.here;
      at = b.at;
    })
blocks_fault bytes scope blocks at Memory magic knows p h = tt

-- ---- zeros

zero_low_bits : (k : ℕ) → All (λ bit. bit ≡ 0) (low_bits k 0)
zero_low_bits zero = subst (All (λ bit. bit ≡ 0)) (sym (low_bits-none 0)) (All-nil (λ bit. bit ≡ 0))
zero_low_bits (suc k) = subst (All (λ bit. bit ≡ 0)) (sym (low_bits-more k 0)) (All-cons (λ bit. bit ≡ 0) 0 (low_bits k 0) refl (zero_low_bits k))

zero_from_bits : (k n : ℕ) → n < 2 ^ k → All (λ bit. bit ≡ 0) (low_bits k n) → n ≡ 0
zero_from_bits zero n small zeros = omega arith
zero_from_bits (suc k) n small zeros =
    let bits = subst (All (λ bit. bit ≡ 0)) (low_bits-more k n) zeros in
    let head : n % 2 ≡ 0 = All-head (λ bit. bit ≡ 0) (n % 2) (low_bits k (n / 2)) bits in
    let rest : n / 2 ≡ 0 = zero_from_bits k (n / 2) (omega (arith, pow-suc 2 k)) (All-tail (λ bit. bit ≡ 0) (n % 2) (low_bits k (n / 2)) bits) in
    omega arith

zero_bits : (bytes : List ℕ) → All (λ byte. byte ≡ 0) bytes → All (λ bit. bit ≡ 0) (bits_of bytes)
zero_bits [] zeros = subst (All (λ bit. bit ≡ 0)) (sym bits_of-none) (All-nil (λ bit. bit ≡ 0))
zero_bits (byte ∷ bytes) zeros =
    let head : byte ≡ 0 = All-head (λ b. b ≡ 0) byte bytes zeros in
    subst (All (λ bit. bit ≡ 0)) (sym (bits_of-more byte bytes))
    (All-append (λ bit. bit ≡ 0) (low_bits 8 byte) (bits_of bytes) (subst (λ b. All (λ bit. bit ≡ 0) (low_bits 8 b)) (sym head) (zero_low_bits 8))
    (zero_bits bytes (All-tail (λ b. b ≡ 0) byte bytes zeros)))

left_part : (xs ys : List ℕ) → All (λ bit. bit ≡ 0) (xs ++ ys) → All (λ bit. bit ≡ 0) xs
left_part [] ys zeros = All-nil (λ bit. bit ≡ 0)
left_part (x ∷ xs) ys zeros =
    All-cons (λ bit. bit ≡ 0) x xs (All-head (λ bit. bit ≡ 0) x (xs ++ ys) zeros) (left_part xs ys (All-tail (λ bit. bit ≡ 0) x (xs ++ ys) zeros))

right_part : (xs ys : List ℕ) → All (λ bit. bit ≡ 0) (xs ++ ys) → All (λ bit. bit ≡ 0) ys
right_part [] ys zeros = zeros
right_part (x ∷ xs) ys zeros = right_part xs ys (All-tail (λ bit. bit ≡ 0) x (xs ++ ys) zeros)

zero_bytes : (bytes : List ℕ) → ((i : ℕ) → get_or bytes i 0 < 256) → All (λ bit. bit ≡ 0) (bits_of bytes) → All (λ byte. byte ≡ 0) bytes
zero_bytes [] fits zeros = All-nil (λ byte. byte ≡ 0)
zero_bytes (byte ∷ bytes) fits zeros =
    let bits = subst (All (λ bit. bit ≡ 0)) (bits_of-more byte bytes) zeros in
    All-cons (λ b. b ≡ 0) byte bytes (zero_from_bits 8 byte (omega (arith, fits 0)) (left_part (low_bits 8 byte) (bits_of bytes) bits))
    (zero_bytes bytes (λ i. fits (suc i)) (right_part (low_bits 8 byte) (bits_of bytes) bits))

pub zeros_from : (bytes rest : List ℕ) (at : ℕ) → at % 8 ≡ 0 → rest ≡ drop (at / 8) bytes → ((i : ℕ) → get_or rest i 0 < 256) →
    All (λ byte. byte ≡ 0) rest ↔ All (λ bit. bit ≡ 0) (drop at (bits_of bytes))
zeros_from bytes rest at on is fits =
    let place : 8 * (at / 8) ≡ at = omega arith in
    let bits : drop at (bits_of bytes) ≡ bits_of rest = ap (λ n. drop n (bits_of bytes)) (sym place) ∙ (drop_bytes (at / 8) bytes ∙ ap bits_of (sym is)) in (
      λ zeros. subst (All (λ bit. bit ≡ 0)) (sym bits) (zero_bits rest zeros),
      λ zeros. zero_bytes rest fits (subst (All (λ bit. bit ≡ 0)) bits zeros),
    )

-- ---- answers

pub gives_blocks : (bytes : List ℕ) (answer : Result (List BlockTree) StreamFault) (blocks : Contents) →
    MatchResult answer (λ found. Spelled bytes (contents_of found)) (IsBad bytes) → Spelled bytes blocks → MatchResult answer (λ found. contents_of found ≡ blocks) (λ fault. fault ≡ Memory)
gives_blocks bytes (Ok found) blocks h spelled = one_list bytes (contents_of found) blocks h spelled
gives_blocks bytes (Err (Bad kind bit)) blocks h spelled = absurd (no_fault bytes blocks kind bit spelled h)
gives_blocks bytes (Err Memory) blocks h spelled = refl

pub gives_fault : (bytes : List ℕ) (answer : Result (List BlockTree) StreamFault) (kind bit : ℕ) →
    MatchResult answer (λ found. Spelled bytes (contents_of found)) (IsBad bytes) → Faulty bytes kind bit → (answer ≡ Err (Bad kind bit)) ⊎ (answer ≡ Err Memory)
gives_fault bytes (Ok found) kind bit h faulty = absurd (no_fault bytes (contents_of found) kind bit h faulty)
gives_fault bytes (Err (Bad other place)) kind bit h faulty =
    let same = one_fault bytes other kind place bit h faulty in
    inl (ap (λ k. Err (Bad k place)) same.0 ∙ ap (λ b. Err (Bad kind b)) same.1)
gives_fault bytes (Err Memory) kind bit h faulty = inr refl
