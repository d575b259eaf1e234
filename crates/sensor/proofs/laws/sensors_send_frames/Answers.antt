use Rattle.sensor.proofs.Frames.{sends_frame, recovers, nine_is_sent}
use Rattle.sensor.proofs.Soundness.{sent_is_read}
use Rattle.sensor.proofs.laws.sensors_send_frames.Goals as goal

pub returns : goal.returns
returns c = record { sends = sends_frame; recovers = recovers; read = sent_is_read; nine = nine_is_sent }
