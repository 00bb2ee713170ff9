mod Appearing
mod Carrying
mod Examples
mod Finding
mod Limited
mod Numbers
mod Saying
mod Sums
