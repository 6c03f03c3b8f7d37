-- `job::read` meets its contract: test by test, and then section by section. Assumes nothing.
use mathlib.Core.Path.{refl, sym, ◌∙◌}
use Rattle.std.proofs.lemmas.Result.{err_from_is_err_and}
use Rattle.job.proofs.Soundness.{too_long, no_front, no_direction}
use Rattle.job.proofs.Reading.{start, along, stuck, section_is, ended, no_section}
use Rattle.job.proofs.read.Goals as goal

pub returns-then-job-gt16384-clause-unsound : goal.returns-then-job-gt16384-clause-unsound
returns-then-job-gt16384-clause-unsound c = (refl, too_long c.args.job.now c.if-job-gt16384.true)

pub returns-then-job-lt2-clause-unsound : goal.returns-then-job-lt2-clause-unsound
returns-then-job-lt2-clause-unsound c = (refl, no_front c.args.job.now c.if-job-gt16384.false c.if-job-lt2.true)

pub returns-in_err-direction-clause-unsound : goal.returns-in_err-direction-clause-unsound
returns-in_err-direction-clause-unsound c =
    let (x, is, same) = err_from_is_err_and c.from_residual.result c.from_residual.ensures.1 in
    rw is (same ∙ c.in_err-direction.ensures.0, no_direction c.args.job.now c.if-job-gt16384.false c.in_err-direction.ensures.1)

pub returns-in_err-key-clause-unsound : goal.returns-in_err-key-clause-unsound
returns-in_err-key-clause-unsound c =
    let job = c.args.job.now in
    let at_key = start job c.if-job-gt16384.false _ c.in_ok-direction.ensures in
    let none = c.in_err-key.ensures.ok_part in
    no_section job c.from_residual-in_err-key.result c.from_residual-in_err-key.ensures.1 c.in_err-key.ensures.value none (stuck at_key c.split.ensures none)

pub returns-in_err-nonce-clause-unsound : goal.returns-in_err-nonce-clause-unsound
returns-in_err-nonce-clause-unsound c =
    let job = c.args.job.now in
    let at_key = start job c.if-job-gt16384.false _ c.in_ok-direction.ensures in
    let at_nonce = along at_key c.split.ensures c.in_ok-key.ensures.ok_part in
    let none = c.in_err-nonce.ensures.ok_part in
    no_section job c.from_residual-in_err-nonce.result c.from_residual-in_err-nonce.ensures.1 c.in_err-nonce.ensures.value none (stuck at_nonce c.split-2.ensures none)

pub returns-in_err-header-clause-unsound : goal.returns-in_err-header-clause-unsound
returns-in_err-header-clause-unsound c =
    let job = c.args.job.now in
    let at_key = start job c.if-job-gt16384.false _ c.in_ok-direction.ensures in
    let at_nonce = along at_key c.split.ensures c.in_ok-key.ensures.ok_part in
    let at_header = along at_nonce c.split-2.ensures c.in_ok-nonce.ensures.ok_part in
    let none = c.in_err-header.ensures.ok_part in
    no_section job c.from_residual-in_err-header.result c.from_residual-in_err-header.ensures.1 c.in_err-header.ensures.value none (stuck at_header c.split-3.ensures none)

pub returns-in_err-body-clause-unsound : goal.returns-in_err-body-clause-unsound
returns-in_err-body-clause-unsound c =
    let job = c.args.job.now in
    let at_key = start job c.if-job-gt16384.false _ c.in_ok-direction.ensures in
    let at_nonce = along at_key c.split.ensures c.in_ok-key.ensures.ok_part in
    let at_header = along at_nonce c.split-2.ensures c.in_ok-nonce.ensures.ok_part in
    let at_body = along at_header c.split-3.ensures c.in_ok-header.ensures.ok_part in
    let none = c.in_err-body.ensures.ok_part in
    no_section job c.from_residual-in_err-body.result c.from_residual-in_err-body.ensures.1 c.in_err-body.ensures.value none (stuck at_body c.split-4.ensures none)

pub returns-then-not-is_empty-clause-unsound : goal.returns-then-not-is_empty-clause-unsound
returns-then-not-is_empty-clause-unsound c =
    let job = c.args.job.now in
    let at_key = start job c.if-job-gt16384.false _ c.in_ok-direction.ensures in
    let at_nonce = along at_key c.split.ensures c.in_ok-key.ensures.ok_part in
    let at_header = along at_nonce c.split-2.ensures c.in_ok-nonce.ensures.ok_part in
    let at_body = along at_header c.split-3.ensures c.in_ok-header.ensures.ok_part in
    let at_none = along at_body c.split-4.ensures c.in_ok-body.ensures.ok_part in
    (refl, ended at_none c.is_empty.ensures c.if-not-is_empty.true)

pub returns-clause-sound : goal.returns-clause-sound
returns-clause-sound c =
    let job = c.args.job.now in
    let at_key = start job c.if-job-gt16384.false _ c.in_ok-direction.ensures in
    let at_nonce = along at_key c.split.ensures c.in_ok-key.ensures.ok_part in
    let at_header = along at_nonce c.split-2.ensures c.in_ok-nonce.ensures.ok_part in
    let at_body = along at_header c.split-3.ensures c.in_ok-header.ensures.ok_part in
    let at_none = along at_body c.split-4.ensures c.in_ok-body.ensures.ok_part in
    record {
      sound = ended at_none c.is_empty.ensures c.if-not-is_empty.false;
      scheme_is = c.from.ensures;
      direction_is = sym c.in_ok-direction.ensures;
      key_is = section_is at_key c.split.ensures c.in_ok-key.ensures.ok_part;
      nonce_is = section_is at_nonce c.split-2.ensures c.in_ok-nonce.ensures.ok_part;
      header_is = section_is at_header c.split-3.ensures c.in_ok-header.ensures.ok_part;
      body_is = section_is at_body c.split-4.ensures c.in_ok-body.ensures.ok_part;
    }
