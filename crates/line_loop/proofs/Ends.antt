-- How a loop ends, for each answer of its reader.
use Rattle.std.proofs.Common.{refl, ◌≡◌, ◌↔◌, inl, inr, ℕ, ◌+◌, ◌<◌, ◌≤◌, List, ◌++◌, length, length-append, Option, ◌∙◌, subst, arith}
use Rattle.scc_text.specs.Reader.{Reader, Answers}
use Rattle.scc_text.specs.declared.next.Next.{Next}
use Rattle.scc_text.specs.declared.next.Next.TheVariants as next
use Rattle.scc_text.proofs.LinesRead.{read_line, read_too_long, read_end, read_fault, read_limit}
use Rattle.line_loop.specs.Account.{Behaviour, lines_in, Replied, Broke, EndBroke, IsBreak, AtLine, AtEnd, Closes, Looped}
use Rattle.line_loop.specs.declared.flow.Flow.{Flow}
use Rattle.line_loop.specs.declared.flow.Flow.TheVariants.{Stop}
use Rattle.line_loop.specs.declared.ending.Ending.{Ending}
use Rattle.line_loop.specs.declared.ending.Ending.TheVariants as status
use Rattle.line_loop.proofs.SoFar.{SoFar}
use Rattle.scc_ports.specs.Ports.{Gains}

-- how much was read
read_few : {M : Type 0} (m : Behaviour M) (start now : M) (old new : Reader) (left_old left left_new : Option (List ℕ)) (done : List (List ℕ)) (written_old written : Option (List ℕ)) (steps_old steps : ℕ) (got : List ℕ) (given : Next)
    → (so_far : SoFar m start now old left_old left done written_old written steps_old steps) → Answers given old new left left_new got → length (so_far.read ++ got) ≡ new.taken
read_few m start now old new left_old left left_new done written_old written steps_old steps got given so_far answers =
    omega (arith, answers.count, so_far.lines.count, length-append so_far.read got)

-- an end within the limit
looped : {M : Type 0} (m : Behaviour M) (start from now : M) (given : Ending) (reader : Reader) (left_old left : Option (List ℕ)) (done : List (List ℕ)) (written_old told written : Option (List ℕ)) (steps_old before steps one : ℕ) (old : Reader) (left_before : Option (List ℕ)) (read : List ℕ)
    → (so_far : SoFar m start from old left_old left_before done written_old told steps_old before)
    → (given ≡ status.InputLimit) ↔ (length read ≡ 67108865) → length read ≤ 67108865 → steps ≡ before + one → Closes m given from now one told written reader left_old left read (done ++ lines_in so_far.exchanges)
    → Looped m start now given reader left_old left done written_old written steps_old steps
looped m start from now given reader left_old left done written_old told written steps_old before steps one old left_before read so_far limit few made closes = record {
  read = read;
  few = few;
  limit = limit;
  exchanges = so_far.exchanges;
  from = from;
  told = told;
  more = one;
  went = so_far.went;
  wrote = so_far.wrote;
  ticked = omega (arith, so_far.ticked);
  closes = closes;
}

within : (given : Ending) (size : ℕ) → (given ≡ status.InputLimit → ⊥) → size ≤ 67108864 → (given ≡ status.InputLimit) ↔ (size ≡ 67108865)
within given size other few = (λ is. absurd (other is), λ is. absurd (omega arith))

-- the machine stopped at a line
pub looped_stopped : {M : Type 0} (m : Behaviour M) (start from now : M) (old new : Reader) (left_old left left_new : Option (List ℕ)) (done : List (List ℕ)) (written_old told written : Option (List ℕ)) (steps_old before steps one : ℕ) (got line : List ℕ)
    → SoFar m start from old left_old left done written_old told steps_old before → Answers next.Line old new left left_new got → new.taken ≤ 67108864 → line ≡ new.line
    → {flow : Flow} → flow ≡ Stop → Replied m.answers flow from line one now told written → steps ≡ before + one
    → Looped m start now status.Stopped new left_old left_new done written_old written steps_old steps
looped_stopped m start from now old new left_old left left_new done written_old told written steps_old before steps one got line so_far answers room lent is replied made =
    let more = read_line old new left_old left left_new so_far.read (done ++ lines_in so_far.exchanges) so_far.pending got so_far.lines answers in
    let size = read_few m start from old new left_old left left_new done written_old told steps_old before got next.Line so_far answers in
    looped m start from now status.Stopped new left_old left_new done written_old told written steps_old before steps one old left (so_far.read ++ got) so_far
    (within status.Stopped _ (λ is. cc) (omega (arith, size))) (omega (arith, size)) made
    (new.line, (more.0, more.1), subst (λ xs. Replied m.answers Stop from xs one now told written) lent (subst (λ t. Replied m.answers t from line one now told written) is replied))

pub looped_stopped_long : {M : Type 0} (m : Behaviour M) (start from now : M) (old new : Reader) (left_old left left_new : Option (List ℕ)) (done : List (List ℕ)) (written_old told written : Option (List ℕ)) (steps_old steps : ℕ) (got : List ℕ)
    → SoFar m start from old left_old left done written_old told steps_old steps → Answers next.TooLong old new left left_new got → new.taken ≤ 67108864
    → {flow : Flow} → flow ≡ Stop → ((line : List ℕ) → old.most < length line → Replied m.answers flow from line 0 now told written)
    → Looped m start now status.Stopped new left_old left_new done written_old written steps_old steps
looped_stopped_long m start from now old new left_old left left_new done written_old told written steps_old steps got so_far answers room is replied =
    let more = read_too_long old new left_old left left_new so_far.read (done ++ lines_in so_far.exchanges) so_far.pending got so_far.lines answers in
    let size = read_few m start from old new left_old left left_new done written_old told steps_old steps got next.TooLong so_far answers in
    looped m start from now status.Stopped new left_old left_new done written_old told written steps_old steps steps 0 old left (so_far.read ++ got) so_far
    (within status.Stopped _ (λ is. cc) (omega (arith, size))) (omega (arith, size)) (omega arith)
    (more.0, (more.1, more.2), subst (λ t. Replied m.answers t from more.0 0 now told written) is (replied more.0 more.3))

-- a line broke off
broke : {M : Type 0} (m : Behaviour M) (given : Ending) (f_before f_now : ℕ) (from now : M) (reader : Reader) (left_old left : Option (List ℕ)) (done : List (List ℕ)) (told written : Option (List ℕ)) (one : ℕ) (read line : List ℕ)
    → IsBreak f_before f_now given → AtLine reader left_old left read done line → Broke m.answers m.fails given from line one now told written
    → Closes m given from now one told written reader left_old left read done
broke m status.WriteFault f_before f_now from now reader left_old left done told written one read line is at broken = inl (line, at, broken)
broke m status.OutOfMemory f_before f_now from now reader left_old left done told written one read line is at broken = inl (line, at, broken)
broke m status.Done f_before f_now from now reader left_old left done told written one read line is at broken = absurd is
broke m status.Stopped f_before f_now from now reader left_old left done told written one read line is at broken = absurd is
broke m status.ReadFault f_before f_now from now reader left_old left done told written one read line is at broken = absurd is
broke m status.InputLimit f_before f_now from now reader left_old left done told written one read line is at broken = absurd is

no_limit : (f_before f_now : ℕ) (given : Ending) → IsBreak f_before f_now given → given ≡ status.InputLimit → ⊥
no_limit f_before f_now given is same = subst (λ s. IsBreak f_before f_now s) same is

pub looped_broke : {M : Type 0} (m : Behaviour M) (start from now : M) (given : Ending) (f_before f_now : ℕ) (old new : Reader) (left_old left left_new : Option (List ℕ)) (done : List (List ℕ)) (written_old told written : Option (List ℕ)) (steps_old before steps one : ℕ) (got line : List ℕ)
    → SoFar m start from old left_old left done written_old told steps_old before → Answers next.Line old new left left_new got → new.taken ≤ 67108864 → line ≡ new.line
    → IsBreak f_before f_now given → Broke m.answers m.fails given from line one now told written → steps ≡ before + one
    → Looped m start now given new left_old left_new done written_old written steps_old steps
looped_broke m start from now given f_before f_now old new left_old left left_new done written_old told written steps_old before steps one got line so_far answers room lent is broken made =
    let more = read_line old new left_old left left_new so_far.read (done ++ lines_in so_far.exchanges) so_far.pending got so_far.lines answers in
    let size = read_few m start from old new left_old left left_new done written_old told steps_old before got next.Line so_far answers in
    looped m start from now given new left_old left_new done written_old told written steps_old before steps one old left (so_far.read ++ got) so_far
    (within given _ (no_limit f_before f_now given is) (omega (arith, size))) (omega (arith, size)) made
    (broke m given f_before f_now from now new left_old left_new (done ++ lines_in so_far.exchanges) told written one (so_far.read ++ got) new.line is (more.0, more.1) (subst (λ xs. Broke m.answers m.fails given from xs one now told written) lent broken))

pub looped_broke_long : {M : Type 0} (m : Behaviour M) (start from now : M) (given : Ending) (f_before f_now : ℕ) (old new : Reader) (left_old left left_new : Option (List ℕ)) (done : List (List ℕ)) (written_old told written : Option (List ℕ)) (steps_old steps : ℕ) (got : List ℕ)
    → SoFar m start from old left_old left done written_old told steps_old steps → Answers next.TooLong old new left left_new got → new.taken ≤ 67108864
    → IsBreak f_before f_now given → ((line : List ℕ) → old.most < length line → Broke m.answers m.fails given from line 0 now told written)
    → Looped m start now given new left_old left_new done written_old written steps_old steps
looped_broke_long m start from now given f_before f_now old new left_old left left_new done written_old told written steps_old steps got so_far answers room is broken =
    let more = read_too_long old new left_old left left_new so_far.read (done ++ lines_in so_far.exchanges) so_far.pending got so_far.lines answers in
    let size = read_few m start from old new left_old left left_new done written_old told steps_old steps got next.TooLong so_far answers in
    looped m start from now given new left_old left_new done written_old told written steps_old steps steps 0 old left (so_far.read ++ got) so_far
    (within given _ (no_limit f_before f_now given is) (omega (arith, size))) (omega (arith, size)) (omega arith)
    (broke m given f_before f_now from now new left_old left_new (done ++ lines_in so_far.exchanges) told written 0 (so_far.read ++ got) more.0 is (more.1, more.2) (broken more.0 more.3))

-- the end of the input
pub looped_end : {M : Type 0} (m : Behaviour M) (start now : M) (old new : Reader) (left_old left left_new : Option (List ℕ)) (done : List (List ℕ)) (written_old told written : Option (List ℕ)) (steps_old steps : ℕ) (got : List ℕ)
    → SoFar m start now old left_old left done written_old told steps_old steps → Answers next.End old new left left_new got → new.taken ≤ 67108864
    → (text : List ℕ) × m.ends now text × Gains told written text
    → Looped m start now status.Done new left_old left_new done written_old written steps_old steps
looped_end m start now old new left_old left left_new done written_old told written steps_old steps got so_far answers room ends =
    let all = read_end old new left_old left left_new so_far.read (done ++ lines_in so_far.exchanges) so_far.pending got so_far.lines answers in
    let size = read_few m start now old new left_old left left_new done written_old told steps_old steps got next.End so_far answers in
    looped m start now now status.Done new left_old left_new done written_old told written steps_old steps steps 0 old left (so_far.read ++ got) so_far
    (within status.Done _ (λ is. cc) (omega (arith, size))) (omega (arith, size)) (omega arith) (all, refl, refl, ends)

end_broke : {M : Type 0} (m : Behaviour M) (given : Ending) (f_before f_now : ℕ) (now : M) (reader : Reader) (left_old left : Option (List ℕ)) (done : List (List ℕ)) (told written : Option (List ℕ)) (read : List ℕ)
    → IsBreak f_before f_now given → AtEnd left_old left read done → EndBroke m.ends given now told written
    → Closes m given now now 0 told written reader left_old left read done
end_broke m status.WriteFault f_before f_now now reader left_old left done told written read is at broken = inr (at, refl, refl, broken)
end_broke m status.OutOfMemory f_before f_now now reader left_old left done told written read is at broken = inr (at, refl, refl, broken)
end_broke m status.Done f_before f_now now reader left_old left done told written read is at broken = absurd is
end_broke m status.Stopped f_before f_now now reader left_old left done told written read is at broken = absurd is
end_broke m status.ReadFault f_before f_now now reader left_old left done told written read is at broken = absurd is
end_broke m status.InputLimit f_before f_now now reader left_old left done told written read is at broken = absurd is

pub looped_end_broke : {M : Type 0} (m : Behaviour M) (start now : M) (given : Ending) (f_before f_now : ℕ) (old new : Reader) (left_old left left_new : Option (List ℕ)) (done : List (List ℕ)) (written_old told written : Option (List ℕ)) (steps_old steps : ℕ) (got : List ℕ)
    → SoFar m start now old left_old left done written_old told steps_old steps → Answers next.End old new left left_new got → new.taken ≤ 67108864
    → IsBreak f_before f_now given → EndBroke m.ends given now told written
    → Looped m start now given new left_old left_new done written_old written steps_old steps
looped_end_broke m start now given f_before f_now old new left_old left left_new done written_old told written steps_old steps got so_far answers room is broken =
    let all = read_end old new left_old left left_new so_far.read (done ++ lines_in so_far.exchanges) so_far.pending got so_far.lines answers in
    let size = read_few m start now old new left_old left left_new done written_old told steps_old steps got next.End so_far answers in
    looped m start now now given new left_old left_new done written_old told written steps_old steps steps 0 old left (so_far.read ++ got) so_far
    (within given _ (no_limit f_before f_now given is) (omega (arith, size))) (omega (arith, size)) (omega arith)
    (end_broke m given f_before f_now now new left_old left_new (done ++ lines_in so_far.exchanges) told written (so_far.read ++ got) is all broken)

-- the source failed
pub looped_fault : {M : Type 0} (m : Behaviour M) (start now : M) (old new : Reader) (left_old left left_new : Option (List ℕ)) (done : List (List ℕ)) (written_old written : Option (List ℕ)) (steps_old steps : ℕ) (got : List ℕ)
    → SoFar m start now old left_old left done written_old written steps_old steps → Answers next.ReadFault old new left left_new got → new.taken ≤ 67108864
    → Looped m start now status.ReadFault new left_old left_new done written_old written steps_old steps
looped_fault m start now old new left_old left left_new done written_old written steps_old steps got so_far answers room =
    let all = read_fault old new left_old left left_new so_far.read (done ++ lines_in so_far.exchanges) so_far.pending got so_far.lines answers room in
    let size = read_few m start now old new left_old left left_new done written_old written steps_old steps got next.ReadFault so_far answers in
    looped m start now now status.ReadFault new left_old left_new done written_old written written steps_old steps steps 0 old left (so_far.read ++ got) so_far
    (within status.ReadFault _ (λ is. cc) (omega (arith, size))) (omega (arith, size)) (omega arith) (all, refl, refl, refl)

-- the input is longer than the limit
pub looped_limit : {M : Type 0} (m : Behaviour M) (start now : M) (old new : Reader) (left_old left left_new : Option (List ℕ)) (done : List (List ℕ)) (written_old written : Option (List ℕ)) (steps_old steps : ℕ) (got : List ℕ)
    → SoFar m start now old left_old left done written_old written steps_old steps → Answers next.InputLimit old new left left_new got → old.taken ≤ 67108864 → new.taken ≡ 67108865
    → Looped m start now status.InputLimit new left_old left_new done written_old written steps_old steps
looped_limit m start now old new left_old left left_new done written_old written steps_old steps got so_far answers room limit =
    let all = read_limit old new left_old left left_new so_far.read (done ++ lines_in so_far.exchanges) so_far.pending got so_far.lines answers room limit in
    let size = read_few m start now old new left_old left left_new done written_old written steps_old steps got next.InputLimit so_far answers in
    let full : length (so_far.read ++ got) ≡ 67108865 = size ∙ limit in
    looped m start now now status.InputLimit new left_old left_new done written_old written written steps_old steps steps 0 old left (so_far.read ++ got) so_far
    (λ _. full, λ _. refl) (omega (arith, full)) (omega arith) (all, refl, refl, refl)
